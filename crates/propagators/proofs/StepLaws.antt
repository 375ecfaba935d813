-- What the gap at a bound gives: a bound beyond it, a conflict, or that the constraint is false.
use Rattle.std.proofs.Common.{◌≡◌, ℕ, ◌-◌, ◌^◌, ◌<◌, true, false, IsTrue, refl, sym, ◌∙◌, ap, subst, arith, length, Option, None, Some, IfSome, ℤ, pos, neg_ℤ, ◌+ℤ◌, ◌-ℤ◌, ◌≤ℤ◌, ◌<ℤ◌, ◌⊎◌, inl, inr}
use Rattle.std.specs.Prelude.{int_le, IsSomeAnd}
use Rattle.std.proofs.lemmas.Int.{ints}
use Rattle.std.proofs.lemmas.Bool.Decides.{nat_tests}
use Rattle.std.proofs.lemmas.List.Elements.{All-from_recursion, All-contains}
use Rattle.literals.specs.declared.lit.Lit.{Lit}
use Rattle.literals.specs.declared.lit.Lit.TheVariants.{Constraint, AtMost, AtLeast}
use Rattle.literals.specs.declared.reason.Reason.{Reason}
use Rattle.literals.specs.Lits.{complement_of}
use Rattle.ground_model.specs.declared.int_set.IntSet.{IntSet}
use Rattle.trail.specs.declared.entry.Why.TheVariants.{Shown}
use Rattle.trail.specs.declared.entry.Placed.{Placed}
use Rattle.trail.specs.Implied.{implied}
use Rattle.trail.specs.Assignment.{Assignment, IsAssignment, Names, lits_of, is_true_on, truth_on, lower_on, upper_on, entry_of, Places}
use Rattle.trail.specs.Growth.{Grows}
use Rattle.trail.proofs.ImpliedLaws.{implied-at_least, implied-at_most, open_is, truth-of}
use Rattle.trail.proofs.AssignmentLaws.{true-truth}
use Rattle.propagator_core.specs.Shown.{IsShown, IsConflict}
use Rattle.trail_bounds.specs.inner.Lists.{IsOrTrue}
use Rattle.trail_bounds.proofs.Backs.{each_as}
use Rattle.trail_bounds.proofs.Needing.{forces_by, grows_placed, placed_longer}
use Rattle.propagators.specs.Domains.{fits_domain, valid_domain}
use Rattle.propagators.specs.declared.gap.Gap.{Gap}
use Rattle.propagators.specs.inner.Gaps.{IsOver, IsUnder, IsGap, IsAtBound, IsBeside, IsLitBeside, IsNoneBeside, Explains}
use Rattle.propagators.proofs.GapLaws.{true_le}
use Rattle.propagators.proofs.ReasonLaws.{InEnds, Fits, fits_is, bounds_in, number_names, least_names, most_names, valid_gap, spelled}

-- LITERALS AND BOUNDS

least_true : (t : Assignment) (x : ℕ) (k : ℤ) → k ≤ℤ lower_on t x → is_true_on t (AtLeast x k) ≡ true
least_true t x k h = implied-at_least t.shape.ends (lits_of t.entries) x k ∙ true_le k (lower_on t x) h

most_true : (t : Assignment) (x : ℕ) (k : ℤ) → upper_on t x ≤ℤ k → is_true_on t (AtMost x k) ≡ true
most_true t x k h = implied-at_most t.shape.ends (lits_of t.entries) x k ∙ true_le (upper_on t x) k h

not_le : (a b : ℤ) → b <ℤ a → int_le a b ≡ false
not_le a b h = grind (arith, nat_tests, ints)

least_not : (t : Assignment) (x : ℕ) (k : ℤ) → lower_on t x <ℤ k → is_true_on t (AtLeast x k) ≡ false
least_not t x k h = implied-at_least t.shape.ends (lits_of t.entries) x k ∙ not_le k (lower_on t x) h

most_not : (t : Assignment) (x : ℕ) (k : ℤ) → k <ℤ upper_on t x → is_true_on t (AtMost x k) ≡ false
most_not t x k h = implied-at_most t.shape.ends (lits_of t.entries) x k ∙ not_le (upper_on t x) k h

-- the literals beside a gap are true where the bounds lie in it
over_true : (t : Assignment) (x : ℕ) (gap : Gap) (l : Lit) → IsOver gap (lower_on t x) → IsSomeAnd gap.below (λ a. l ≡ AtLeast x (a +ℤ pos 1)) → is_true_on t l ≡ true
over_true t x gap l o s = go gap.below o s
  where
    go : (below : Option ℤ) → IfSome below (λ a. a <ℤ lower_on t x) → IsSomeAnd below (λ a. l ≡ AtLeast x (a +ℤ pos 1)) → is_true_on t l ≡ true
    go None o s = absurd s
    go (Some a) o s = ap (is_true_on t) s ∙ least_true t x (a +ℤ pos 1) (next (lower_on t x) o)
      where
        next : (k : ℤ) → a <ℤ k → (a +ℤ pos 1) ≤ℤ k
        next k h = omega (arith, ints, h)

under_true : (t : Assignment) (x : ℕ) (gap : Gap) (l : Lit) → IsUnder gap (upper_on t x) → IsSomeAnd gap.above (λ b. l ≡ AtMost x (b -ℤ pos 1)) → is_true_on t l ≡ true
under_true t x gap l o s = go gap.above o s
  where
    go : (above : Option ℤ) → IfSome above (λ b. upper_on t x <ℤ b) → IsSomeAnd above (λ b. l ≡ AtMost x (b -ℤ pos 1)) → is_true_on t l ≡ true
    go None o s = absurd s
    go (Some a) o s = ap (is_true_on t) s ∙ most_true t x (a -ℤ pos 1) (next (upper_on t x) o)
      where
        next : (k : ℤ) → k <ℤ a → k ≤ℤ (a -ℤ pos 1)
        next k h = omega (arith, ints, h)

-- CONFLICT

pub conflict_here : (t : Assignment) (number x : ℕ) (set : IntSet) (at : ℤ) (gap : Gap) (r : Reason) → truth_on t (Constraint number true) ≡ Some true → IsGap set.intervals at gap → IsNoneBeside t x gap → Explains t number x gap r → IsConflict (valid_domain number x set) t r
conflict_here t number x set at gap r on g n e = record {
  is_valid = valid_gap t number x set at gap r g e;
  spelled = spelled t number x gap r e;
  all_true = λ l c. All-contains (λ m. is_true_on t m ≡ true) r.nogood l (All-from_recursion (λ m. is_true_on t m ≡ true) r.nogood
      (each_as (λ m. (m ≡ Constraint number true) ⊎ IsBeside x gap m) (λ m. is_true_on t m ≡ true) r.nogood one e.each)) c;
}
  where
    one : (m : Lit) → (m ≡ Constraint number true) ⊎ IsBeside x gap m → is_true_on t m ≡ true
    one m (inl s) = ap (is_true_on t) s ∙ true-truth t (Constraint number true) on
    one m (inr (inl s)) = over_true t x gap m n.1 s
    one m (inr (inr s)) = under_true t x gap m n.0 s

-- FORCING

-- an open literal of the shape, shown by the reason
pub record Steps (t : Assignment) (number x : ℕ) (set : IntSet) (l : Lit) (r : Reason) : Type 0 where
  pub names : Names t.shape l
  pub is_open : truth_on t l ≡ None
  pub shown : IsShown (valid_domain number x set) t (entry_of t l (Shown r))

pub step_grows : (t new : Assignment) (number x : ℕ) (set : IntSet) (l : Lit) (r : Reason) (p : Placed) → Steps t number x set l r → Places t l (Shown r) p new → Grows (IsShown (valid_domain number x set)) t new
step_grows t new number x set l r p s h = grows_placed (IsShown (valid_domain number x set)) t new l r p s.names h s.is_open s.shown

pub step_longer : (t new : Assignment) (number x : ℕ) (set : IntSet) (l : Lit) (r : Reason) (p : Placed) → Steps t number x set l r → Places t l (Shown r) p new → length t.entries < length new.entries
step_longer t new number x set l r p s h = placed_longer t new l r p h s.is_open

-- the reason shows a literal whose opposite it has, where its others are true
step_by : (t : Assignment) (number x : ℕ) (set : IntSet) (at : ℤ) (gap : Gap) (l : Lit) (r : Reason) → Names t.shape l → is_true_on t l ≡ false → is_true_on t (complement_of l) ≡ false → IsGap set.intervals at gap → Explains t number x gap r → implied t.shape.ends r.nogood (complement_of l) ≡ true → ((m : Lit) → (m ≡ Constraint number true) ⊎ IsBeside x gap m → IsOrTrue t (complement_of l) m) → Steps t number x set l r
step_by t number x set at gap l r n off never g e has f = record {
  names = n;
  is_open = truth-of t.shape.ends (lits_of t.entries) l false false off never;
  shown = record {
    reason = r;
    why = refl;
    is_valid = valid_gap t number x set at gap r g e;
    spelled = spelled t number x gap r e;
    forces = forces_by t r l never has (each_as (λ m. (m ≡ Constraint number true) ⊎ IsBeside x gap m) (IsOrTrue t (complement_of l)) r.nogood f e.each);
  };
}

-- the bound above the gap at the lower bound
step_up : (t : Assignment) (number x : ℕ) (set : IntSet) (gap : Gap) (b : ℤ) (l : Lit) (r : Reason) → IsAssignment t → Fits t.shape number x → truth_on t (Constraint number true) ≡ Some true → IsAtBound t x set.intervals gap → gap.above ≡ Some b → b ≤ℤ upper_on t x → l ≡ AtLeast x b → Explains t number x gap r → Steps t number x set l r
step_up t number x set gap b l r is f on at e le same x' =
    subst (λ (m : Lit). Steps t number x set m r) (sym same)
    (step_by t number x set at.at gap (AtLeast x b) r
    (least_names t.shape number x b f (low (lower_on t x) i.low_small (below_b at.bound)) (high (upper_on t x) i.high_large le))
    (least_not t x b (below_b at.bound)) (most_not t x (b -ℤ pos 1) (before (upper_on t x) le)) at.is x'
    (subst (λ (o : Option ℤ). IfSome o (λ c. implied t.shape.ends r.nogood (AtMost x (c -ℤ pos 1)) ≡ true)) e x'.under) one)
  where
    i : InEnds (lower_on t x) (upper_on t x)
    i = bounds_in t x is

    under : at.at <ℤ b
    under = subst (λ (o : Option ℤ). IfSome o (λ c. at.at <ℤ c)) e at.is.under

    before : (k : ℤ) → b ≤ℤ k → (b -ℤ pos 1) <ℤ k
    before k h = omega (arith, ints, h)

    low : (k : ℤ) → neg_ℤ (pos (2 ^ 30 - 1)) ≤ℤ k → k <ℤ b → neg_ℤ (pos (2 ^ 30 - 1)) ≤ℤ b
    low k p q = omega (arith, ints, p, q)

    high : (k : ℤ) → k ≤ℤ pos (2 ^ 30 - 1) → b ≤ℤ k → b ≤ℤ pos (2 ^ 30)
    high k p q = omega (arith, ints, p, q)

    below_b : (at.at ≡ lower_on t x) ⊎ (at.at ≡ upper_on t x) → lower_on t x <ℤ b
    below_b (inl s) = subst (λ (k : ℤ). k <ℤ b) s under
    below_b (inr s) = absurd (no (upper_on t x) s under le)
      where
        no : (k : ℤ) → at.at ≡ k → at.at <ℤ b → b ≤ℤ k → ⊥
        no k s u h = omega (arith, ints, s, u, h)

    over : (at.at ≡ lower_on t x) ⊎ (at.at ≡ upper_on t x) → IsOver gap (lower_on t x)
    over (inl s) = subst (IsOver gap) s at.is.over
    over (inr s) = absurd (no (upper_on t x) s under le)
      where
        no : (k : ℤ) → at.at ≡ k → at.at <ℤ b → b ≤ℤ k → ⊥
        no k s u h = omega (arith, ints, s, u, h)

    one : (m : Lit) → (m ≡ Constraint number true) ⊎ IsBeside x gap m → IsOrTrue t (AtMost x (b -ℤ pos 1)) m
    one m (inl s) = inr (ap (is_true_on t) s ∙ true-truth t (Constraint number true) on)
    one m (inr (inl s)) = inr (over_true t x gap m (over at.bound) s)
    one m (inr (inr s)) = inl (subst (λ (o : Option ℤ). IsSomeAnd o (λ c. m ≡ AtMost x (c -ℤ pos 1))) e s)

-- the bound below the gap at the upper bound
step_down : (t : Assignment) (number x : ℕ) (set : IntSet) (gap : Gap) (a : ℤ) (l : Lit) (r : Reason) → IsAssignment t → Fits t.shape number x → truth_on t (Constraint number true) ≡ Some true → IsAtBound t x set.intervals gap → IsUnder gap (upper_on t x) → gap.below ≡ Some a → lower_on t x ≤ℤ a → l ≡ AtMost x a → Explains t number x gap r → Steps t number x set l r
step_down t number x set gap a l r is f on at u e le same x' =
    subst (λ (m : Lit). Steps t number x set m r) (sym same)
    (step_by t number x set at.at gap (AtMost x a) r
    (most_names t.shape number x a f (low (lower_on t x) i.low_small le) (high (upper_on t x) i.high_large (above_a at.bound)))
    (most_not t x a (above_a at.bound)) (least_not t x (a +ℤ pos 1) (after (lower_on t x) le)) at.is x'
    (subst (λ (o : Option ℤ). IfSome o (λ c. implied t.shape.ends r.nogood (AtLeast x (c +ℤ pos 1)) ≡ true)) e x'.over) one)
  where
    i : InEnds (lower_on t x) (upper_on t x)
    i = bounds_in t x is

    over : a <ℤ at.at
    over = subst (λ (o : Option ℤ). IfSome o (λ c. c <ℤ at.at)) e at.is.over

    after : (k : ℤ) → k ≤ℤ a → k <ℤ (a +ℤ pos 1)
    after k h = omega (arith, ints, h)

    low : (k : ℤ) → neg_ℤ (pos (2 ^ 30 - 1)) ≤ℤ k → k ≤ℤ a → neg_ℤ (pos (2 ^ 30)) ≤ℤ a
    low k p q = omega (arith, ints, p, q)

    high : (k : ℤ) → k ≤ℤ pos (2 ^ 30 - 1) → a <ℤ k → a ≤ℤ pos (2 ^ 30 - 1)
    high k p q = omega (arith, ints, p, q)

    above_a : (at.at ≡ lower_on t x) ⊎ (at.at ≡ upper_on t x) → a <ℤ upper_on t x
    above_a (inl s) = absurd (no (lower_on t x) s over le)
      where
        no : (k : ℤ) → at.at ≡ k → a <ℤ at.at → k ≤ℤ a → ⊥
        no k s o h = omega (arith, ints, s, o, h)
    above_a (inr s) = subst (λ (k : ℤ). a <ℤ k) s over

    one : (m : Lit) → (m ≡ Constraint number true) ⊎ IsBeside x gap m → IsOrTrue t (AtLeast x (a +ℤ pos 1)) m
    one m (inl s) = inr (ap (is_true_on t) s ∙ true-truth t (Constraint number true) on)
    one m (inr (inl s)) = inl (subst (λ (o : Option ℤ). IsSomeAnd o (λ c. m ≡ AtLeast x (c +ℤ pos 1))) e s)
    one m (inr (inr s)) = inr (under_true t x gap m u s)

-- the bound that the gap gives
pub step_beside : (t : Assignment) (number x : ℕ) (set : IntSet) (gap : Gap) (l : Lit) (r : Reason) → IsAssignment t → IsTrue (fits_domain number x t.shape) → truth_on t (Constraint number true) ≡ Some true → IsAtBound t x set.intervals gap → IsLitBeside t x gap l → Explains t number x gap r → Steps t number x set l r
step_beside t number x set gap l r is fit on at (inl s) e = go gap.above refl s
  where
    go : (above : Option ℤ) → gap.above ≡ above → IsSomeAnd above (λ b. (b ≤ℤ upper_on t x) × (l ≡ AtLeast x b)) → Steps t number x set l r
    go None q s = absurd s
    go (Some b) q s = step_up t number x set gap b l r is (fits_is t.shape number x fit) on at q s.0 s.1 e
step_beside t number x set gap l r is fit on at (inr s) e = go gap.below refl s.1
  where
    go : (below : Option ℤ) → gap.below ≡ below → IsSomeAnd below (λ a. (lower_on t x ≤ℤ a) × (l ≡ AtMost x a)) → Steps t number x set l r
    go None q p = absurd p
    go (Some a) q p = step_down t number x set gap a l r is (fits_is t.shape number x fit) on at s.0 q p.0 p.1 e

-- the open constraint is false, where all numbers within the bounds lie in the gap
pub step_off : (t : Assignment) (number x : ℕ) (set : IntSet) (at : ℤ) (gap : Gap) (r : Reason) → IsTrue (fits_domain number x t.shape) → truth_on t (Constraint number true) ≡ None → IsGap set.intervals at gap → IsNoneBeside t x gap → Explains t number x gap r → Steps t number x set (Constraint number false) r
step_off t number x set at gap r fit un g n e =
    let o = open_is t.shape.ends (lits_of t.entries) (Constraint number true) un in
    step_by t number x set at gap (Constraint number false) r (number_names t.shape number x false (fits_is t.shape number x fit)) o.1 o.0 g e e.listed one
  where
    one : (m : Lit) → (m ≡ Constraint number true) ⊎ IsBeside x gap m → IsOrTrue t (Constraint number true) m
    one m (inl s) = inl s
    one m (inr (inl s)) = inr (over_true t x gap m n.1 s)
    one m (inr (inr s)) = inr (under_true t x gap m n.0 s)
