-- A domain constraint that rests is quiet, and it rests on while what it touches stays the same.
use Rattle.std.proofs.Common.{◌≡◌, ℕ, suc, Bool, true, false, not, cond, ◌||◌, IsTrue, refl, sym, ◌∙◌, ap, ap₂, subst, arith, List, [], ◌∷◌, length, take, Option, None, Some, IfSome, ℤ, pos, ◌≤ℤ◌, ◌<ℤ◌, inl, inr}
use Rattle.std.specs.List.{AllByRecursion, Contains}
use Rattle.std.proofs.lemmas.Int.{ints}
use Rattle.symbols.specs.declared.ends.Ends.{Ends}
use Rattle.literals.specs.declared.lit.Lit.{Lit}
use Rattle.literals.specs.declared.lit.Lit.TheVariants.{Atom, Body, Constraint, AtMost, AtLeast}
use Rattle.literals.specs.declared.reason.Reason.{Reason}
use Rattle.literals.specs.Lits.{same_lit}
use Rattle.literals.specs.Nogoods.{has_lit}
use Rattle.literals.proofs.LitLaws.{same_lit-equal}
use Rattle.ground_model.specs.declared.int_set.IntSet.{IntSet}
use Rattle.ground_model.specs.Intervals.{lies_in}
use Rattle.ground_model.proofs.Bools.{and_elim, and_intro, conflict}
use Rattle.linear_normal.specs.declared.constraint.Item.TheVariants.{Value}
use Rattle.linear_normal.specs.Bounds.{bounds_named, raised, lowered}
use Rattle.linear_normal.specs.Steps.{none_between}
use Rattle.trail.specs.declared.entry.Entry.{Entry}
use Rattle.trail.specs.Assignment.{Assignment, IsAssignment, lits_of, is_true_on, truth_on, lower_on, upper_on}
use Rattle.trail.specs.Growth.{Grows}
use Rattle.trail.specs.Forced.{AllTrueOn, AllButOpen}
use Rattle.trail.proofs.ImpliedLaws.{fold-push}
use Rattle.trail.proofs.AssignmentLaws.{bounds_meet, truth-true}
use Rattle.trail.proofs.GrowthLaws.{grows_length}
use Rattle.propagator_core.specs.Standing.{StandsFor}
use Rattle.propagator_core.specs.declared.touch.Touch.TheVariants as touch
use Rattle.propagator_core.specs.Touching.{SameOf}
use Rattle.propagator_core.specs.Quiet.{IsQuiet, IsSteady}
use Rattle.trail_bounds.specs.OnTrail.{bounds_on}
use Rattle.trail_bounds.specs.inner.Lists.{IsOrTrue}
use Rattle.trail_bounds.proofs.Ranges.{on_low, on_high, low_says, high_says, Says}
use Rattle.trail_bounds.proofs.Following.{with_lit, bounds_with, follow_says, says_with, low_left, high_left}
use Rattle.propagators.specs.Domains.{valid_domain, keeps_within, settled_domain, rests_domain, domain_meaning}
use Rattle.propagators.specs.declared.gap.Gap.{Gap}
use Rattle.propagators.specs.inner.Gaps.{IsGap}
use Rattle.propagators.proofs.GapLaws.{lies_between, none_within}
use Rattle.propagators.proofs.ReasonLaws.{valid_parts}

-- LISTS

recursion_all : (P : Lit → Type 0) (ls : List Lit) → ((l : Lit) → Contains ls l → P l) → AllByRecursion P ls
recursion_all P [] h = tt
recursion_all P (l ∷ ls) h = (h l (0, omega arith, refl), recursion_all P ls (λ m c. h m (suc c.0, (let lt = c.1 in omega (arith, lt)), c.2)))

has_as : (P : Lit → Type 0) (ls : List Lit) (l : Lit) → AllByRecursion P ls → has_lit ls l ≡ true → P l
has_as P [] l a h = absurd (let no : false ≡ true = h in cc)
has_as P (m ∷ ms) l a h = cases (same_lit m l) refl h (has_as P ms l a.1)
  where
    cases : (b : Bool) → same_lit m l ≡ b → (b || has_lit ms l) ≡ true → (has_lit ms l ≡ true → P l) → P l
    cases true e h g = subst P (same_lit-equal m l e) a.0
    cases false e h g = g h

-- WHAT THE TRAIL NAMES

module _ (number x : ℕ) (set : IntSet) (t : Assignment) (is : IsAssignment t) (rests : IsTrue (rests_domain number x set t)) where
  rests_by : (o : Option Bool) → truth_on t (Constraint number true) ≡ o → keeps_within o (lower_on t x) (upper_on t x) set.intervals ≡ true
  rests_by o e = sym (ap (λ p. keeps_within p (lower_on t x) (upper_on t x) set.intervals) e) ∙ rests

  -- true: both bounds are in the set
  both_in : is_true_on t (Constraint number true) ≡ true → (lies_in set.intervals (lower_on t x) ≡ true) × (lies_in set.intervals (upper_on t x) ≡ true)
  both_in on = and_elim (lies_in set.intervals (lower_on t x)) (lies_in set.intervals (upper_on t x)) (rests_by (Some true) (truth-true t (Constraint number true) on))

  -- open: some number is within the bounds
  some_in : truth_on t (Constraint number true) ≡ None → none_between (lower_on t x) (upper_on t x) set.intervals ≡ false
  some_in o = opposite (none_between (lower_on t x) (upper_on t x) set.intervals) (rests_by None o)
    where
      opposite : (b : Bool) → not b ≡ true → b ≡ false
      opposite true e = let no : false ≡ true = e in cc
      opposite false e = refl

  trans : (a b c : ℤ) → a ≤ℤ b → b ≤ℤ c → a ≤ℤ c
  trans a b c f g = omega (arith, ints, f, g)

  same_right : (a b c : ℤ) → a ≤ℤ b → b ≡ c → a ≤ℤ c
  same_right a b c f g = omega (arith, ints, f, g)

  same_left : (a b c : ℤ) → a ≤ℤ b → a ≡ c → c ≤ℤ b
  same_left a b c f g = omega (arith, ints, f, g)

  module _ (r : Reason) (valid : IsTrue (valid_domain number x set t.shape r)) where
    none : none_between ((bounds_named t.shape.ends r.nogood).low x) ((bounds_named t.shape.ends r.nogood).high x) set.intervals ≡ true
    none = (valid_parts number x set t.shape r valid).3

    never : (k : ℤ) → lies_in set.intervals k ≡ true → (bounds_named t.shape.ends r.nogood).low x ≤ℤ k → k ≤ℤ (bounds_named t.shape.ends r.nogood).high x → ⊥
    never k h a b = lies_between set.intervals ((bounds_named t.shape.ends r.nogood).low x) ((bounds_named t.shape.ends r.nogood).high x) k h a b none

    low_under : (ls : List Lit) → Says t.shape.ends r.nogood ls → (bounds_named t.shape.ends r.nogood).low x ≤ℤ (bounds_named t.shape.ends ls).low x
    low_under ls s = low_says t.shape.ends r.nogood ls (Value x (pos 0)) s

    high_over : (ls : List Lit) → Says t.shape.ends r.nogood ls → (bounds_named t.shape.ends ls).high x ≤ℤ (bounds_named t.shape.ends r.nogood).high x
    high_over ls s = high_says t.shape.ends r.nogood ls (Value x (pos 0)) s

    none_true : AllTrueOn t r.nogood → ⊥
    none_true a =
        let all = recursion_all (λ l. is_true_on t l ≡ true) r.nogood a in
        let s = follow_says t.shape.ends r.nogood (lits_of t.entries) all in
        never (lower_on t x) (both_in (has_as (λ l. is_true_on t l ≡ true) r.nogood (Constraint number true) all (valid_parts number x set t.shape r valid).2)).0
        (same_right ((bounds_named t.shape.ends r.nogood).low x) ((bounds_on t).low x) (lower_on t x) (low_under (lits_of t.entries) s) (on_low t x))
        (trans (lower_on t x) (upper_on t x) ((bounds_named t.shape.ends r.nogood).high x) (bounds_meet t x is)
        (same_left ((bounds_on t).high x) ((bounds_named t.shape.ends r.nogood).high x) (upper_on t x) (high_over (lits_of t.entries) s) (on_high t x)))

    module _ (l : Lit) (but : AllButOpen t r.nogood l) where
      all : AllByRecursion (IsOrTrue t l) r.nogood
      all = recursion_all (IsOrTrue t l) r.nogood but.others

      says : Says t.shape.ends r.nogood (with_lit t l)
      says = says_with t l r.nogood all

      low_with : (bounds_with t l).low x ≡ raised x ((bounds_on t).low x) l
      low_with = fold-push (raised x) t.shape.ends.min (lits_of t.entries) l

      high_with : (bounds_with t l).high x ≡ lowered x ((bounds_on t).high x) l
      high_with = fold-push (lowered x) t.shape.ends.max (lits_of t.entries) l

      -- the open literal bounds from below at most: the trail's upper bound stays
      by_upper : lowered x ((bounds_on t).high x) l ≡ (bounds_on t).high x → lies_in set.intervals (upper_on t x) ≡ true → ⊥
      by_upper e h =
          never (upper_on t x) h
          (trans ((bounds_named t.shape.ends r.nogood).low x) ((bounds_with t l).low x) (upper_on t x) (low_under (with_lit t l) says)
          (same_right ((bounds_with t l).low x) ((bounds_on t).high x) (upper_on t x) (low_left t l (Value x (pos 0)) is but.is_open) (on_high t x)))
          (same_left ((bounds_with t l).high x) ((bounds_named t.shape.ends r.nogood).high x) (upper_on t x) (high_over (with_lit t l) says) (high_with ∙ e ∙ on_high t x))

      -- or from above at most: the lower bound stays
      by_lower : raised x ((bounds_on t).low x) l ≡ (bounds_on t).low x → lies_in set.intervals (lower_on t x) ≡ true → ⊥
      by_lower e h =
          never (lower_on t x) h
          (same_right ((bounds_named t.shape.ends r.nogood).low x) ((bounds_with t l).low x) (lower_on t x) (low_under (with_lit t l) says) (low_with ∙ e ∙ on_low t x))
          (trans (lower_on t x) ((bounds_with t l).high x) ((bounds_named t.shape.ends r.nogood).high x)
          (same_left ((bounds_on t).low x) ((bounds_with t l).high x) (lower_on t x) (high_left t l (Value x (pos 0)) is but.is_open) (on_low t x))
          (high_over (with_lit t l) says))

      -- or neither: no number is within both
      by_both : raised x ((bounds_on t).low x) l ≡ (bounds_on t).low x → lowered x ((bounds_on t).high x) l ≡ (bounds_on t).high x → none_between (lower_on t x) (upper_on t x) set.intervals ≡ true
      by_both e f =
          none_within set.intervals ((bounds_named t.shape.ends r.nogood).low x) ((bounds_named t.shape.ends r.nogood).high x) (lower_on t x) (upper_on t x)
          (same_right ((bounds_named t.shape.ends r.nogood).low x) ((bounds_with t l).low x) (lower_on t x) (low_under (with_lit t l) says) (low_with ∙ e ∙ on_low t x))
          (same_left ((bounds_with t l).high x) ((bounds_named t.shape.ends r.nogood).high x) (upper_on t x) (high_over (with_lit t l) says) (high_with ∙ f ∙ on_high t x))
          none

    none_forced : (l : Lit) → AllButOpen t r.nogood l → ⊥
    none_forced l but = cases (has_as (IsOrTrue t l) r.nogood (Constraint number true) (all l but) (valid_parts number x set t.shape r valid).2)
      where
        kinds : (l : Lit) → AllButOpen t r.nogood l → (lies_in set.intervals (lower_on t x) ≡ true) × (lies_in set.intervals (upper_on t x) ≡ true) → ⊥
        kinds (Atom n s) but b = by_lower (Atom n s) but refl b.0
        kinds (Body n s) but b = by_lower (Body n s) but refl b.0
        kinds (Constraint n s) but b = by_lower (Constraint n s) but refl b.0
        kinds (AtMost y k) but b = by_lower (AtMost y k) but refl b.0
        kinds (AtLeast y k) but b = by_upper (AtLeast y k) but refl b.1

        own : AllButOpen t r.nogood (Constraint number true) → ⊥
        own b = conflict (none_between (lower_on t x) (upper_on t x) set.intervals) (by_both (Constraint number true) b refl refl) (some_in b.is_open)

        cases : IsOrTrue t l (Constraint number true) → ⊥
        cases (inl same) = own (subst (λ (m : Lit). AllButOpen t r.nogood m) (sym same) but)
        cases (inr on) = kinds l but (both_in on)

  settled_here : IsTrue (settled_domain number x set t)
  settled_here = cases (is_true_on t (Constraint number true)) refl
    where
      cases : (b : Bool) → is_true_on t (Constraint number true) ≡ b → (not b || lies_in set.intervals (lower_on t x)) ≡ true
      cases true e = (both_in e).0
      cases false e = refl

  quiet_here : IsQuiet (domain_meaning number x set) t
  quiet_here = record {
    none_true = λ r v o a. none_true r v a;
    none_forced = λ r l v n a. none_forced r v l a;
    settled = λ d. settled_here;
  }

-- WHILE WHAT IT TOUCHES STAYS THE SAME

truth_same : (t u : Assignment) (n : ℕ) → SameOf t u (touch.Truth n) → truth_on u (Constraint n true) ≡ truth_on t (Constraint n true)
truth_same t u n s = go (is_true_on t (Constraint n true)) (is_true_on u (Constraint n true)) (is_true_on t (Constraint n false)) (is_true_on u (Constraint n false)) s.0 s.1
  where
    go : (a b c d : Bool) → b ≡ a → d ≡ c → cond b (Some true) (cond d (Some false) None) ≡ cond a (Some true) (cond c (Some false) None)
    go a b c d e f = rw (e, f) refl

rests_last : (number x : ℕ) (set : IntSet) (t u : Assignment) → SameOf t u (touch.Truth number) → SameOf t u (touch.Bounds x) → IsTrue (rests_domain number x set t) → IsTrue (rests_domain number x set u)
rests_last number x set t u s b h =
    ap (λ o. keeps_within o (lower_on u x) (upper_on u x) set.intervals) (truth_same t u number s)
    ∙ ap (λ k. keeps_within (truth_on t (Constraint number true)) k (upper_on u x) set.intervals) b.0
    ∙ ap (λ k. keeps_within (truth_on t (Constraint number true)) (lower_on t x) k set.intervals) b.1
    ∙ h

pub steady : (number x : ℕ) (set : IntSet) → IsSteady (domain_meaning number x set)
steady number x set = record {
  quiet = λ t is f r. quiet_here number x set t is r;
  lasts = λ t u e s r. rests_last number x set t u s.0 s.1.0 r;
}

not_both : (b : Bool) → (b ≡ true → ⊥) → b ≡ false
not_both true f = absurd (f refl)
not_both false f = refl

-- what is answered where nothing is left to say
pub done : (number x : ℕ) (set : IntSet) (t : Assignment) (o : Option Bool) → IsAssignment t → truth_on t (Constraint number true) ≡ o → keeps_within o (lower_on t x) (upper_on t x) set.intervals ≡ true → IsQuiet (domain_meaning number x set) t × IsTrue (rests_domain number x set t)
done number x set t o is e h =
    let r : IsTrue (rests_domain number x set t) = ap (λ p. keeps_within p (lower_on t x) (upper_on t x) set.intervals) e ∙ h in
    (quiet_here number x set t is r, r)

pub both_kept : (set : IntSet) (intervals : List (ℤ × ℤ)) (t : Assignment) (x : ℕ) (low high : ℤ) → intervals ≡ set.intervals → low ≡ lower_on t x → high ≡ upper_on t x → lies_in intervals low ≡ true → lies_in intervals high ≡ true → keeps_within (Some true) (lower_on t x) (upper_on t x) set.intervals ≡ true
both_kept set intervals t x low high e f g h k =
    and_intro (lies_in set.intervals (lower_on t x)) (lies_in set.intervals (upper_on t x)) (sym (ap₂ lies_in e f) ∙ h) (sym (ap₂ lies_in e g) ∙ k)

-- some number of the set is within the bounds: the lower one, or the one above its gap
pub lower_within : (set : IntSet) (intervals : List (ℤ × ℤ)) (t : Assignment) (x : ℕ) (low : ℤ) → intervals ≡ set.intervals → low ≡ lower_on t x → IsAssignment t → lies_in intervals low ≡ true → none_between (lower_on t x) (upper_on t x) set.intervals ≡ false
lower_within set intervals t x low e f is h =
    not_both (none_between (lower_on t x) (upper_on t x) set.intervals)
    (lies_between set.intervals (lower_on t x) (upper_on t x) (lower_on t x) (sym (ap₂ lies_in e f) ∙ h) (same (lower_on t x)) (bounds_meet t x is))
  where
    same : (a : ℤ) → a ≤ℤ a
    same a = omega (arith, ints)

pub above_within : (set : IntSet) (intervals : List (ℤ × ℤ)) (t : Assignment) (x : ℕ) (low high b : ℤ) (gap : Gap) → intervals ≡ set.intervals → low ≡ lower_on t x → high ≡ upper_on t x → IsGap intervals low gap → gap.above ≡ Some b → b ≤ℤ high → none_between (lower_on t x) (upper_on t x) set.intervals ≡ false
above_within set intervals t x low high b gap e f g is above le =
    not_both (none_between (lower_on t x) (upper_on t x) set.intervals)
    (lies_between set.intervals (lower_on t x) (upper_on t x) b (ap (λ xs. lies_in xs b) (sym e) ∙ subst (λ (o : Option ℤ). IfSome o (λ c. lies_in intervals c ≡ true)) above is.above)
    (less (lower_on t x) f (subst (λ (o : Option ℤ). IfSome o (λ c. low <ℤ c)) above is.under)) (more (upper_on t x) g))
  where
    less : (a : ℤ) → low ≡ a → low <ℤ b → a ≤ℤ b
    less a e h = omega (arith, ints, e, h)

    more : (a : ℤ) → high ≡ a → b ≤ℤ a
    more a e = omega (arith, ints, e, le)

-- STATE

pub looked_all : (P : Assignment → Entry → Type 0) (a b : Assignment) (n : ℕ) (stands : Ends → List Entry → Type 0) → ((e : Ends) (es : List Entry) → stands e es) → n ≡ length a.entries → Grows P a b → StandsFor stands n b
looked_all P a b n stands f e g = record {
  within = (let more = grows_length P a b g in omega (arith, e, more));
  for_these = f b.shape.ends (take n b.entries);
}
