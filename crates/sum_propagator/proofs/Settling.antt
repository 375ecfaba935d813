-- Conflicts, a constraint that its sums settle, and what a quiet sum has left to say.
use Rattle.std.proofs.Common.{◌≡◌, ℕ, suc, ◌<◌, ◌≤◌, ◌==◌, Bool, true, false, not, cond, ◌&&◌, ◌||◌, IsTrue, refl, sym, ◌∙◌, ap, subst, arith, List, [], ◌∷◌, length, get_or, Option, None, Some, ℤ, pos, negsuc, neg_ℤ, ◌*ℤ◌, ◌+ℤ◌, ◌-ℤ◌, ◌≤ℤ◌, ◌<ℤ◌, ◌⊎◌, inl, inr}
use Rattle.std.specs.Prelude.{int_le, int_lt}
use Rattle.std.specs.List.{AllByRecursion, Contains, list_any}
use Rattle.std.proofs.lemmas.Bool.Decides.{nat_tests}
use Rattle.std.proofs.lemmas.Int.{ints}
use Rattle.std.proofs.lemmas.List.Elements.{All-from_recursion, All-contains, recursion_from_All}
use Rattle.symbols.specs.declared.ends.Ends.{Ends}
use Rattle.literals.specs.declared.lit.Lit.{Lit}
use Rattle.literals.specs.declared.lit.Lit.TheVariants.{Constraint}
use Rattle.literals.specs.declared.reason.Reason.{Reason}
use Rattle.literals.specs.Lits.{complement_of, same_lit}
use Rattle.literals.specs.Nogoods.{has_lit}
use Rattle.literals.proofs.LitLaws.{same_lit-equal}
use Rattle.linear_normal.specs.declared.constraint.Item.{Item}
use Rattle.linear_normal.specs.declared.constraint.Item.TheVariants.{Value, Truth}
use Rattle.linear_normal.specs.Bounds.{Bounds, bounds_named, least_times, greatest_times, least_item, greatest_item, least_sum, greatest_sum}
use Rattle.linear_normal.specs.Steps.{is_one_of}
use Rattle.trail.specs.declared.entry.Entry.{Entry}
use Rattle.trail.specs.declared.entry.Why.TheVariants.{Shown}
use Rattle.trail.specs.declared.entry.Placed.{Placed}
use Rattle.trail.specs.Implied.{implied}
use Rattle.trail.specs.Assignment.{Assignment, IsAssignment, Names, lits_of, is_true_on, truth_on, Places}
use Rattle.trail.specs.Growth.{Grows}
use Rattle.trail.specs.Forced.{AllTrueOn, AllButOpen}
use Rattle.trail.proofs.ImpliedLaws.{open_is, truth-of}
use Rattle.trail.proofs.AssignmentLaws.{agree_on, true-truth, false-truth}
use Rattle.propagator_core.specs.Meaning.{Meaning}
use Rattle.propagator_core.specs.Shown.{IsShown, IsConflict}
use Rattle.propagator_core.specs.Quiet.{IsDecided, IsQuiet}
use Rattle.sum_propagator.specs.declared.sum.Totals.{Totals}
use Rattle.numbering_laws.specs.Items.{are_items, counts_truth}
use Rattle.sum_propagator.specs.Sums.{fits_sum, valid_sum, settled_sum, sum_meaning, totals_after}
use Rattle.trail_bounds.specs.OnTrail.{is_item_of, bounds_on}
use Rattle.trail_bounds.specs.Items.{low_in, high_in}
use Rattle.sum_propagator.specs.Sides.{limit_of}
use Rattle.trail_bounds.specs.Sides.{side_sum, Rests}
use Rattle.trail_bounds.specs.inner.Lists.{IsOrTrue}
use Rattle.sum_propagator.specs.Reasons.{Explains}
use Rattle.sum_propagator.specs.declared.sum.Kind.{Kind}
use Rattle.sum_propagator.specs.declared.sum.Kind.TheVariants as kind
use Rattle.sum_propagator.specs.Kinds.{meaning_of, IsAbout, IsOn}
use Rattle.trail_bounds.proofs.Ranges.{on_low, on_high, least-named, greatest-named}
use Rattle.sum_propagator.proofs.Backing.{sum_covers}
use Rattle.trail_bounds.proofs.ItemSums.{sum_says, side-true, side-false}
use Rattle.sum_propagator.proofs.Validity.{valid_kind, valid_cases, spelled, reason_or_true, reason_true, Excludes}
use Rattle.sum_propagator.proofs.Narrowing.{items_of}
use Rattle.trail_bounds.proofs.Needing.{forces_by, grows_placed}
use Rattle.trail_bounds.proofs.Following.{with_lit, bounds_with, follow_says, says_with, other_items}
use Rattle.sum_propagator.proofs.Forcing.{own_off, once_rec, one_lit, rests_rec}

above : (m x y : ℤ) (s : ℕ) → (m +ℤ pos s) <ℤ x → x ≤ℤ (y +ℤ pos s) → m <ℤ y
above m x y s h g = omega (arith, ints, h, g)

excluded : (t : Assignment) (kind : Kind) (number : ℕ) (items : List Item) (most : ℤ) (side : Bool) (instead : Lit) (slack : ℕ) (r : Reason) → IsAbout kind side → Explains t kind number items side (length items) instead slack r → (limit_of side most +ℤ pos slack) <ℤ side_sum side (bounds_on t) items → IsTrue ((meaning_of kind number items most).valid t.shape r)
excluded t kind number items most side instead slack r a x h =
    valid_kind kind number items most t.shape r side a x.names x.step x.listed
    (above (limit_of side most) (side_sum side (bounds_on t) items) (side_sum side (bounds_named t.shape.ends r.nogood) items) slack h (sum_covers side (bounds_on t) (bounds_named t.shape.ends r.nogood) items slack x.covers))

-- a sum that is true on a side and beyond its limit is in conflict
pub conflict_here : (t : Assignment) (kind : Kind) (number : ℕ) (items : List Item) (most : ℤ) (side : Bool) (instead : Lit) (slack : ℕ) (r : Reason) → IsOn t kind number side → (limit_of side most +ℤ pos slack) <ℤ side_sum side (bounds_on t) items → Explains t kind number items side (length items) instead slack r → IsConflict (meaning_of kind number items most).valid t r
conflict_here t kind number items most side instead slack r on h x = record {
  is_valid = excluded t kind number items most side instead slack r on.0 x h;
  spelled = spelled t kind number items side (length items) instead slack r x;
  all_true = λ l c. All-contains (λ m. is_true_on t m ≡ true) r.nogood l (All-from_recursion (λ m. is_true_on t m ≡ true) r.nogood (reason_true t kind number items side (length items) instead slack r (omega arith) on.1 x)) c;
}

twice : (n : ℕ) (s : Bool) → complement_of (Constraint n (not s)) ≡ Constraint n s
twice n true = refl
twice n false = refl

-- an open constraint is open on both sides
both_open : (t : Assignment) (n : ℕ) (s : Bool) → truth_on t (Constraint n true) ≡ None → is_true_on t (Constraint n s) ≡ false
both_open t n true h = (open_is t.shape.ends (lits_of t.entries) (Constraint n true) h).0
both_open t n false h = (open_is t.shape.ends (lits_of t.entries) (Constraint n true) h).1

pub open_side : (t : Assignment) (n : ℕ) (s : Bool) → truth_on t (Constraint n true) ≡ None → truth_on t (Constraint n s) ≡ None
open_side t n true h = h
open_side t n false h = truth-of t.shape.ends (lits_of t.entries) (Constraint n false) false false (both_open t n false h) (both_open t n true h)

-- the constraint set to the other side, shown by what excludes this one
pub settle_shown : (t new : Assignment) (number : ℕ) (items : List Item) (most : ℤ) (side : Bool) (slack : ℕ) (r : Reason) (p : Placed) → Names t.shape (Constraint number (not side)) → truth_on t (Constraint number true) ≡ None → (limit_of side most +ℤ pos slack) <ℤ side_sum side (bounds_on t) items → Explains t kind.Constraint number items side (length items) (Constraint number side) slack r → Places t (Constraint number (not side)) (Shown r) p new → Grows (IsShown (valid_sum number items most)) t new
settle_shown t new number items most side slack r p n un h x places =
    let back = twice number side in
    grows_placed (IsShown (valid_sum number items most)) t new (Constraint number (not side)) r p n places (open_side t number (not side) un) (record {
      reason = r;
      why = refl;
      is_valid = excluded t kind.Constraint number items most side (Constraint number side) slack r tt x h;
      spelled = spelled t kind.Constraint number items side (length items) (Constraint number side) slack r x;
      forces = forces_by t r (Constraint number (not side))
          (ap (is_true_on t) back ∙ both_open t number side un)
          (ap (implied t.shape.ends r.nogood) back ∙ x.listed.0)
          (subst (λ (l : Lit). AllByRecursion (IsOrTrue t l) r.nogood) (sym back) (reason_or_true t kind.Constraint number items side (length items) (Constraint number side) slack r (inl refl, tt) x));
    })

-- NOTHING LEFT TO SAY

recursion_all : (P : Lit → Type 0) (ls : List Lit) → ((l : Lit) → Contains ls l → P l) → AllByRecursion P ls
recursion_all P [] h = tt
recursion_all P (l ∷ ls) h = (h l (0, omega arith, refl), recursion_all P ls (λ m c. h m (suc c.0, (let lt = c.1 in omega (arith, lt)), c.2)))

has_as : (P : Lit → Type 0) (ls : List Lit) (l : Lit) → AllByRecursion P ls → has_lit ls l ≡ true → P l
has_as P [] l a h = absurd (let no : false ≡ true = h in cc)
has_as P (m ∷ ms) l a h = cases (same_lit m l) refl h (has_as P ms l a.1)
  where
    cases : (b : Bool) → same_lit m l ≡ b → (b || has_lit ms l) ≡ true → (has_lit ms l ≡ true → P l) → P l
    cases true e h g = subst P (same_lit-equal m l e) a.0
    cases false e h g = g h

clash : (m x y : ℤ) → m <ℤ x → x ≤ℤ y → y ≤ℤ m → ⊥
clash m x y h g f = omega (arith, ints, h, g, f)

-- on each side that is true the sum is within its limit by a slack within which each item rests
pub record Rested (t : Assignment) (items : List Item) (most : ℤ) (side : Bool) : Type 0 where
  pub slack : ℕ
  pub within : (side_sum side (bounds_on t) items +ℤ pos slack) ≡ limit_of side most
  pub rest : AllByRecursion (Rests side (bounds_on t) slack) items

abbrev pub Holds : Assignment → ℕ → List Item → ℤ → Type 0
Holds t number items most = (side : Bool) → is_true_on t (Constraint number side) ≡ true → Rested t items most side

-- on each side that is open the sum is within its limit
abbrev pub Opens : Assignment → ℕ → List Item → ℤ → Type 0
Opens t number items most = (side : Bool) → truth_on t (Constraint number side) ≡ None → side_sum side (bounds_on t) items ≤ℤ limit_of side most

less_by : (x m : ℤ) (k : ℕ) → (x +ℤ pos k) ≡ m → x ≤ℤ m
less_by x m k e = omega (arith, ints, e)

to_limit : (x y m : ℤ) (s : ℕ) → x ≤ℤ (y +ℤ pos s) → (y +ℤ pos s) ≡ m → x ≤ℤ m
to_limit x y m s h e = omega (arith, ints, h, e)

none_true : (t : Assignment) (number : ℕ) (items : List Item) (most : ℤ) → Holds t number items most → (r : Reason) → IsTrue (valid_sum number items most t.shape r) → AllTrueOn t r.nogood → ⊥
none_true t number items most w r v a = cases (valid_cases number items most t.shape r v)
  where
    all : AllByRecursion (λ l. is_true_on t l ≡ true) r.nogood
    all = recursion_all (λ l. is_true_on t l ≡ true) r.nogood a

    no : (side : Bool) → Excludes number items most t.shape r side → ⊥
    no side x =
        let h = w side (has_as (λ l. is_true_on t l ≡ true) r.nogood (Constraint number side) all x.0) in
        clash (limit_of side most) (side_sum side (bounds_named t.shape.ends r.nogood) items) (side_sum side (bounds_on t) items) x.1
        (sum_says side t.shape.ends r.nogood (lits_of t.entries) items (follow_says t.shape.ends r.nogood (lits_of t.entries) all))
        (less_by (side_sum side (bounds_on t) items) (limit_of side most) h.slack h.within)

    cases : Excludes number items most t.shape r true ⊎ Excludes number items most t.shape r false → ⊥
    cases (inl x) = no true x
    cases (inr x) = no false x

none_forced : (t : Assignment) (number : ℕ) (items : List Item) (most : ℤ) → IsAssignment t → IsTrue (are_items number items) → Holds t number items most → Opens t number items most → (r : Reason) (l : Lit) → IsTrue (valid_sum number items most t.shape r) → AllButOpen t r.nogood l → ⊥
none_forced t number items most h i w o r l v a = cases (valid_cases number items most t.shape r v)
  where
    all : AllByRecursion (IsOrTrue t l) r.nogood
    all = recursion_all (IsOrTrue t l) r.nogood a.others

    within : (side : Bool) → IsOrTrue t l (Constraint number side) → side_sum side (bounds_with t l) items ≤ℤ limit_of side most
    within side (inl same) =
        subst (λ (m : Lit). side_sum side (bounds_with t m) items ≤ℤ limit_of side most) same
        (subst (λ (k : ℤ). k ≤ℤ limit_of side most) (sym (other_items t side (Constraint number side) items (own_off number side items i)))
        (o side (ap (truth_on t) same ∙ a.is_open)))
    within side (inr on) =
        let q = w side on in
        to_limit (side_sum side (bounds_with t l) items) (side_sum side (bounds_on t) items) (limit_of side most) q.slack (one_lit t side l q.slack items h a.is_open (once_rec number items i) q.rest) q.within

    no : (side : Bool) → Excludes number items most t.shape r side → ⊥
    no side x =
        clash (limit_of side most) (side_sum side (bounds_named t.shape.ends r.nogood) items) (side_sum side (bounds_with t l) items) x.1
        (sum_says side t.shape.ends r.nogood (with_lit t l) items (says_with t l r.nogood all))
        (within side (has_as (IsOrTrue t l) r.nogood (Constraint number side) all x.0))

    cases : Excludes number items most t.shape r true ⊎ Excludes number items most t.shape r false → ⊥
    cases (inl x) = no true x
    cases (inr x) = no false x

-- ONE VALUE EACH

one_of : (last n : ℕ) → IsTrue (is_one_of last n) → (1 ≤ n) × (n ≤ last)
one_of last n h = (grind (arith, nat_tests), grind (arith, nat_tests))

fixed_item : (m : Meaning) (t : Assignment) (i : Item) → IsAssignment t → IsDecided m t → IsTrue (is_item_of t.shape i) → ((n : ℕ) → counts_truth n i ≡ true → IsTrue (m.counts n)) → low_in (bounds_on t) i ≡ high_in (bounds_on t) i
fixed_item m t (Value x c) h d n f = let o = one_of t.shape.variables x n in on_low t x ∙ d.values x o.0 o.1 ∙ sym (on_high t x)
fixed_item m t (Truth n c) h d k f = cases (d.counted n (f n (same n)))
  where
    same : (n : ℕ) → (n == n) ≡ true
    same n = grind (arith, nat_tests)

    low : (bounds_on t).least n ≡ cond (is_true_on t (Constraint n true)) (pos 1) (pos 0)
    low = least-named t.shape.ends (lits_of t.entries) n

    high : (bounds_on t).greatest n ≡ cond (is_true_on t (Constraint n false)) (pos 0) (pos 1)
    high = greatest-named t.shape.ends (lits_of t.entries) n

    cases : (truth_on t (Constraint n true) ≡ Some true) ⊎ (truth_on t (Constraint n true) ≡ Some false) → (bounds_on t).least n ≡ (bounds_on t).greatest n
    cases (inl e) =
        let on = true-truth t (Constraint n true) e in
        low ∙ ap (λ b. cond b (pos 1) (pos 0)) on ∙ sym (high ∙ ap (λ b. cond b (pos 0) (pos 1)) (agree_on t (Constraint n true) h on))
    cases (inr e) =
        let off : is_true_on t (Constraint n false) ≡ true = false-truth t (Constraint n true) e in
        low ∙ ap (λ b. cond b (pos 1) (pos 0)) (agree_on t (Constraint n false) h off) ∙ sym (high ∙ ap (λ b. cond b (pos 0) (pos 1)) off)

times_fixed : (c v w : ℤ) → v ≡ w → least_times c v w ≡ greatest_times c v w
times_fixed (pos n) v w e = ap (λ z. pos n *ℤ z) e
times_fixed (negsuc n) v w e = ap (λ z. negsuc n *ℤ z) (sym e)

item_fixed : (b : Bounds) (i : Item) → low_in b i ≡ high_in b i → least_item b i ≡ greatest_item b i
item_fixed b (Value x c) e = times_fixed c (b.low x) (b.high x) e
item_fixed b (Truth n c) e = times_fixed c (b.least n) (b.greatest n) e

or_left : (a b : Bool) → a ≡ true → (a || b) ≡ true
or_left a b h = rw h refl

or_right : (a b : Bool) → b ≡ true → (a || b) ≡ true
or_right true b h = refl
or_right false b h = h

pub sum_fixed : (m : Meaning) (t : Assignment) (items : List Item) → IsAssignment t → IsDecided m t → AllByRecursion (λ i. IsTrue (is_item_of t.shape i)) items → ((n : ℕ) → list_any (counts_truth n) items ≡ true → IsTrue (m.counts n)) → least_sum (bounds_on t) items ≡ greatest_sum (bounds_on t) items
sum_fixed m t [] h d a f = refl
sum_fixed m t (i ∷ is) h d a f =
    add (item_fixed (bounds_on t) i (fixed_item m t i h d a.0 (λ n e. f n (or_left (counts_truth n i) (list_any (counts_truth n) is) e))))
    (sum_fixed m t is h d a.1 (λ n e. f n (or_right (counts_truth n i) (list_any (counts_truth n) is) e)))
  where
    add : {x y u v : ℤ} → x ≡ y → u ≡ v → x +ℤ u ≡ y +ℤ v
    add e f = rw (e, f) refl

fixed_here : (t : Assignment) (number : ℕ) (items : List Item) (most : ℤ) → IsAssignment t → IsTrue (fits_sum number items t.shape) → IsDecided (sum_meaning number items most) t → least_sum (bounds_on t) items ≡ greatest_sum (bounds_on t) items
fixed_here t number items most h fit d =
    sum_fixed (sum_meaning number items most) t items h d (recursion_from_All (λ i. IsTrue (is_item_of t.shape i)) items (items_of t.shape number items fit)) (λ n e. yes_true e)
  where
    yes_true : {b : Bool} → b ≡ true → IsTrue b
    yes_true e = e

settled_yes : (t : Assignment) (number : ℕ) (items : List Item) (most : ℤ) → is_true_on t (Constraint number true) ≡ true → greatest_sum (bounds_on t) items ≤ℤ most → IsTrue (settled_sum number items most t)
settled_yes t number items most on h = join (is_true_on t (Constraint number true)) (int_le (greatest_sum (bounds_on t) items) most) (is_true_on t (Constraint number false) && int_lt most (least_sum (bounds_on t) items)) on (below (greatest_sum (bounds_on t) items) most h)
  where
    below : (x m : ℤ) → x ≤ℤ m → int_le x m ≡ true
    below x m h = grind (arith, nat_tests, ints)

    join : (p q r : Bool) → p ≡ true → q ≡ true → IsTrue ((p && q) || r)
    join p q r e f = grind (arith, nat_tests)

settled_no : (t : Assignment) (number : ℕ) (items : List Item) (most : ℤ) → is_true_on t (Constraint number false) ≡ true → most <ℤ least_sum (bounds_on t) items → IsTrue (settled_sum number items most t)
settled_no t number items most on h = join (is_true_on t (Constraint number true) && int_le (greatest_sum (bounds_on t) items) most) (is_true_on t (Constraint number false)) (int_lt most (least_sum (bounds_on t) items)) on (over most (least_sum (bounds_on t) items) h)
  where
    over : (m x : ℤ) → m <ℤ x → int_lt m x ≡ true
    over m x h = grind (arith, nat_tests, ints)

    join : (r p q : Bool) → p ≡ true → q ≡ true → IsTrue (r || (p && q))
    join r p q e f = grind (arith, nat_tests)

settled_side : (t : Assignment) (number : ℕ) (items : List Item) (most : ℤ) (side : Bool) → is_true_on t (Constraint number side) ≡ true → side_sum side (bounds_on t) items ≤ℤ limit_of side most → least_sum (bounds_on t) items ≡ greatest_sum (bounds_on t) items → IsTrue (settled_sum number items most t)
settled_side t number items most true on h e = settled_yes t number items most on (subst (λ (k : ℤ). k ≤ℤ most) (side-true (bounds_on t) items ∙ e) h)
settled_side t number items most false on h e = settled_no t number items most on (over (side_sum false (bounds_on t) items) (greatest_sum (bounds_on t) items) (least_sum (bounds_on t) items) (side-false (bounds_on t) items) e h)
  where
    over : (x g l : ℤ) → x ≡ neg_ℤ g → l ≡ g → x ≤ℤ (neg_ℤ most -ℤ pos 1) → most <ℤ l
    over x g l e f h = omega (arith, ints, e, f, h)

one_side : (t : Assignment) (n : ℕ) (side p : Bool) → IsAssignment t → is_true_on t (Constraint n side) ≡ true → is_true_on t (Constraint n p) ≡ true → side ≡ p
one_side t n true true h e f = refl
one_side t n false false h e f = refl
one_side t n true false h e f = absurd (let no : true ≡ false = sym f ∙ agree_on t (Constraint n true) h e in cc)
one_side t n false true h e f = absurd (let no : true ≡ false = sym f ∙ agree_on t (Constraint n false) h e in cc)

never_open : (t : Assignment) (n : ℕ) (side p : Bool) → IsAssignment t → is_true_on t (Constraint n side) ≡ true → truth_on t (Constraint n p) ≡ None → ⊥
never_open t n side p h on o = let no : true ≡ false = sym on ∙ at side p (open_is t.shape.ends (lits_of t.entries) (Constraint n p) o) in cc
  where
    at : (side p : Bool) → (is_true_on t (Constraint n p) ≡ false) × (is_true_on t (complement_of (Constraint n p)) ≡ false) → is_true_on t (Constraint n side) ≡ false
    at true true q = q.0
    at false false q = q.0
    at true false q = q.1
    at false true q = q.1

-- a sum that is true on a side, within its limit, with each item within the slack
pub quiet_here : (t : Assignment) (number : ℕ) (items : List Item) (most : ℤ) (side : Bool) (slack : ℕ) → IsAssignment t → IsTrue (are_items number items) → IsTrue (fits_sum number items t.shape) → truth_on t (Constraint number side) ≡ Some true → (side_sum side (bounds_on t) items +ℤ pos slack) ≡ limit_of side most → ((k : ℕ) (d : Item) → k < length items → Rests side (bounds_on t) slack (get_or items k d)) → IsQuiet (sum_meaning number items most) t
quiet_here t number items most side slack h i fit truth e rest =
    let on = true-truth t (Constraint number side) truth in
    record {
      none_true = λ r v o a. none_true t number items most holds r v a;
      none_forced = λ r l v n a. none_forced t number items most h i holds opens r l v a;
      settled = λ d. settled_side t number items most side on (less_by (side_sum side (bounds_on t) items) (limit_of side most) slack e) (fixed_here t number items most h fit d);
    }
  where
    holds : Holds t number items most
    holds p f = subst (Rested t items most) (one_side t number side p h (true-truth t (Constraint number side) truth) f) (record { slack = slack; within = e; rest = rests_rec (bounds_on t) side slack items rest })

    opens : Opens t number items most
    opens p o = absurd (never_open t number side p h (true-truth t (Constraint number side) truth) o)

both : (x y l g m : ℤ) → x ≡ l → y ≡ neg_ℤ g → l ≡ g → x ≤ℤ m → y ≤ℤ (neg_ℤ m -ℤ pos 1) → ⊥
both x y l g m a b c h f = omega (arith, ints, a, b, c, h, f)

-- a sum that is open, and excluded on neither side
pub quiet_open : (t : Assignment) (number : ℕ) (items : List Item) (most : ℤ) → IsAssignment t → IsTrue (are_items number items) → IsTrue (fits_sum number items t.shape) → truth_on t (Constraint number true) ≡ None → side_sum true (bounds_on t) items ≤ℤ limit_of true most → side_sum false (bounds_on t) items ≤ℤ limit_of false most → IsQuiet (sum_meaning number items most) t
quiet_open t number items most h i fit un yea nay = record {
  none_true = λ r v o a. none_true t number items most holds r v a;
  none_forced = λ r l v n a. none_forced t number items most h i holds opens r l v a;
  settled = λ d. absurd (both (side_sum true (bounds_on t) items) (side_sum false (bounds_on t) items) (least_sum (bounds_on t) items) (greatest_sum (bounds_on t) items) most
      (side-true (bounds_on t) items) (side-false (bounds_on t) items) (fixed_here t number items most h fit d) yea nay);
}
  where
    holds : Holds t number items most
    holds p on = absurd (let no : true ≡ false = sym on ∙ both_open t number p un in cc)

    opens : Opens t number items most
    opens true o = yea
    opens false o = nay

-- STATE

pub total_kept : (items : List Item) (ends : Ends) (es : List Entry) (kept : Option Totals) (totals : Totals) → (length es ≡ 0 → kept ≡ None) → (0 < length es → kept ≡ Some totals) → totals.least ≡ least_sum (bounds_named ends (lits_of es)) items → totals.greatest ≡ greatest_sum (bounds_named ends (lits_of es)) items → kept ≡ totals_after items ends es
total_kept items ends [] kept totals z s f g = z refl
total_kept items ends (x ∷ xs) kept totals z s f g = s (omega arith) ∙ ap Some (same totals f g)
  where
    same : (totals : Totals) → totals.least ≡ least_sum (bounds_named ends (lits_of (x ∷ xs))) items → totals.greatest ≡ greatest_sum (bounds_named ends (lits_of (x ∷ xs))) items → totals ≡ record { least = least_sum (bounds_named ends (lits_of (x ∷ xs))) items; greatest = greatest_sum (bounds_named ends (lits_of (x ∷ xs))) items }
    same totals f g = rw (← f, ← g) refl

pub sum_is : (m k x y : ℤ) (s : ℕ) → k ≡ m → x ≡ y → (x +ℤ pos s) ≡ k → (y +ℤ pos s) ≡ m
sum_is m k x y s e f h = omega (arith, ints, e, f, h)

pub excess_is : (m k x y : ℤ) (s : ℕ) → k ≡ m → x ≡ y → (k +ℤ pos s) <ℤ x → (m +ℤ pos s) <ℤ y
excess_is m k x y s e f h = omega (arith, ints, e, f, h)
