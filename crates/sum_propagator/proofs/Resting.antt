-- A sum that rests is quiet, and it rests on while what it touches stays the same.
use Rattle.std.proofs.Common.{◌≡◌, ℕ, zero, suc, ◌&&◌, Bool, true, false, cond, IsTrue, refl, sym, ◌∙◌, ap, subst, arith, List, [], ◌∷◌, length, get_or, map, ◌<◌, Option, None, Some, ℤ, pos, negsuc, neg_ℤ, ◌+ℤ◌, ◌-ℤ◌, ◌≤ℤ◌, ◌<ℤ◌}
use Rattle.std.specs.Prelude.{int_le, int_lt}
use Rattle.std.specs.List.{AllByRecursion, list_all}
use Rattle.std.proofs.lemmas.Bool.Decides.{nat_tests}
use Rattle.std.proofs.lemmas.Int.{ints}
use Rattle.std.proofs.lemmas.List.Elements.{All-from_recursion, recursion_from_All}
use Rattle.literals.specs.declared.lit.Lit.TheVariants.{Constraint}
use Rattle.literals.specs.declared.reason.Step.{Step}
use Rattle.literals.specs.declared.reason.Step.TheVariants.{Sum, Distinct, Window, Pair, Loop, Hole}
use Rattle.literals.specs.declared.reason.Reason.{Reason}
use Rattle.trail.specs.declared.shape.Shape.{Shape}
use Rattle.linear_normal.specs.declared.constraint.Item.{Item}
use Rattle.linear_normal.specs.declared.constraint.Item.TheVariants.{Value, Truth}
use Rattle.linear_normal.specs.Bounds.{Bounds, bounds_named, least_times, greatest_times, least_item, greatest_item, least_sum, greatest_sum}
use Rattle.trail.specs.Assignment.{Assignment, IsAssignment, lits_of, is_true_on, truth_on}
use Rattle.trail.proofs.AssignmentLaws.{true-truth, truth-true, truth-false, false-truth}
use Rattle.propagator_core.specs.declared.touch.Touch.TheVariants as touch
use Rattle.propagator_core.specs.Touching.{SameOf, SameOfAll}
use Rattle.propagator_core.specs.Quiet.{is_of_objective, narrows, IsDecided, IsQuiet, IsSteady}
use Rattle.sum_propagator.specs.declared.sum.Kind.{Kind}
use Rattle.sum_propagator.specs.declared.sum.Kind.TheVariants as kind
use Rattle.sum_propagator.specs.Kinds.{meaning_of, IsOn}
use Rattle.sum_propagator.specs.Objective.{is_within, is_beyond, valid_objective, rests_objective, objective_meaning}
use Rattle.numbering_laws.specs.Items.{are_items}
use Rattle.sum_propagator.specs.Sums.{fits_sum, sum_meaning, touch_of, touches_of, is_below, is_above, is_consistent, rests_sum}
use Rattle.trail_bounds.specs.OnTrail.{is_of, is_item_of, bounds_on}
use Rattle.sum_propagator.specs.Sides.{limit_of}
use Rattle.trail_bounds.specs.Sides.{side_least, side_greatest, side_sum, Rests}
use Rattle.trail_bounds.proofs.Ranges.{on_low, on_high, least-named, greatest-named}
use Rattle.trail_bounds.proofs.ItemSums.{item_least, item_greatest, item_opposite, side-true, side-false}
use Rattle.sum_propagator.proofs.Widths.{greatest_turned}
use Rattle.sum_propagator.proofs.Settling.{quiet_here, quiet_open, sum_fixed}

le_true : (a b : ℤ) → int_le a b ≡ true → a ≤ℤ b
le_true a b h = grind (arith, nat_tests, ints)

true_le : (a b : ℤ) → a ≤ℤ b → int_le a b ≡ true
true_le a b h = grind (arith, nat_tests, ints)

lt_true : (a b : ℤ) → int_lt a b ≡ true → a <ℤ b
lt_true a b h = grind (arith, nat_tests, ints)

true_lt : (a b : ℤ) → a <ℤ b → int_lt a b ≡ true
true_lt a b h = grind (arith, nat_tests, ints)

both_true : (a b : Bool) → (a && b) ≡ true → (a ≡ true) × (b ≡ true)
both_true true b h = (refl, h)
both_true false b h = absurd (let no : false ≡ true = h in cc)

and_true : (a b : Bool) → a ≡ true → b ≡ true → (a && b) ≡ true
and_true true b e f = f
and_true false b e f = absurd (let no : false ≡ true = e in cc)

and_same : (a b c d : Bool) → a ≡ c → b ≡ d → (a && b) ≡ (c && d)
and_same a b c d e f = rw (e, f) refl

natural : (z : ℤ) → pos 0 ≤ℤ z → (n : ℕ) × (z ≡ pos n)
natural (pos n) h = (n, refl)
natural (negsuc n) h = absurd (omega (arith, ints, h))

slack_from : (x m : ℤ) → x ≤ℤ m → (n : ℕ) × ((x +ℤ pos n) ≡ m)
slack_from x m h = let d = natural (m -ℤ x) (omega (arith, ints, h)) in (d.0, (let e = d.1 in omega (arith, ints, e)))

-- ITEM AFTER ITEM

each_from : (P : Item → Type 0) (f : Item → Bool) (items : List Item) → ((i : Item) → f i ≡ true → P i) → list_all f items ≡ true → AllByRecursion P items
each_from P f [] h e = tt
each_from P f (i ∷ is) h e = let p = both_true (f i) (list_all f is) e in (h i p.0, each_from P f is h p.1)

all_from : (P : Item → Type 0) (f : Item → Bool) (items : List Item) → ((i : Item) → P i → f i ≡ true) → AllByRecursion P items → list_all f items ≡ true
all_from P f [] h a = refl
all_from P f (i ∷ is) h a = and_true (f i) (list_all f is) (h i a.0) (all_from P f is h a.1)

all_same : (P : Item → Type 0) (f g : Item → Bool) (items : List Item) → ((i : Item) → P i → f i ≡ g i) → AllByRecursion P items → list_all f items ≡ list_all g items
all_same P f g [] h a = refl
all_same P f g (i ∷ is) h a = and_same (f i) (list_all f is) (g i) (list_all g is) (h i a.0) (all_same P f g is h a.1)

below_rests : (b : Bounds) (items : List Item) (most : ℤ) (slack : ℕ) → (least_sum b items +ℤ pos slack) ≡ most → (i : Item) → is_below b items most i ≡ true → Rests true b slack i
below_rests b items most slack e i h =
    go (least_sum b items) (least_item b i) (greatest_item b i) (side_least true b i) (side_greatest true b i) (item_least b i) (item_greatest b i) e (le_true ((least_sum b items -ℤ least_item b i) +ℤ greatest_item b i) most h)
  where
    go : (s l g x y : ℤ) → x ≡ l → y ≡ g → (s +ℤ pos slack) ≡ most → ((s -ℤ l) +ℤ g) ≤ℤ most → y ≤ℤ (x +ℤ pos slack)
    go s l g x y p q e h = omega (arith, ints, p, q, e, h)

rests_below : (b : Bounds) (items : List Item) (most : ℤ) (slack : ℕ) → (least_sum b items +ℤ pos slack) ≡ most → (i : Item) → Rests true b slack i → is_below b items most i ≡ true
rests_below b items most slack e i h =
    true_le ((least_sum b items -ℤ least_item b i) +ℤ greatest_item b i) most
    (go (least_sum b items) (least_item b i) (greatest_item b i) (side_least true b i) (side_greatest true b i) (item_least b i) (item_greatest b i) e h)
  where
    go : (s l g x y : ℤ) → x ≡ l → y ≡ g → (s +ℤ pos slack) ≡ most → y ≤ℤ (x +ℤ pos slack) → ((s -ℤ l) +ℤ g) ≤ℤ most
    go s l g x y p q e h = omega (arith, ints, p, q, e, h)

above_rests : (b : Bounds) (items : List Item) (most : ℤ) (slack : ℕ) → (neg_ℤ (greatest_sum b items) +ℤ pos slack) ≡ (neg_ℤ most -ℤ pos 1) → (i : Item) → is_above b items most i ≡ true → Rests false b slack i
above_rests b items most slack e i h =
    go (greatest_sum b items) (least_item b i) (greatest_item b i) (side_least false b i) (side_greatest false b i) (item_opposite b i) (greatest_turned b i) e (lt_true most ((greatest_sum b items -ℤ greatest_item b i) +ℤ least_item b i) h)
  where
    go : (s l g x y : ℤ) → x ≡ neg_ℤ g → y ≡ neg_ℤ l → (neg_ℤ s +ℤ pos slack) ≡ (neg_ℤ most -ℤ pos 1) → most <ℤ ((s -ℤ g) +ℤ l) → y ≤ℤ (x +ℤ pos slack)
    go s l g x y p q e h = omega (arith, ints, p, q, e, h)

rests_above : (b : Bounds) (items : List Item) (most : ℤ) (slack : ℕ) → (neg_ℤ (greatest_sum b items) +ℤ pos slack) ≡ (neg_ℤ most -ℤ pos 1) → (i : Item) → Rests false b slack i → is_above b items most i ≡ true
rests_above b items most slack e i h =
    true_lt most ((greatest_sum b items -ℤ greatest_item b i) +ℤ least_item b i)
    (go (greatest_sum b items) (least_item b i) (greatest_item b i) (side_least false b i) (side_greatest false b i) (item_opposite b i) (greatest_turned b i) e h)
  where
    go : (s l g x y : ℤ) → x ≡ neg_ℤ g → y ≡ neg_ℤ l → (neg_ℤ s +ℤ pos slack) ≡ (neg_ℤ most -ℤ pos 1) → y ≤ℤ (x +ℤ pos slack) → most <ℤ ((s -ℤ g) +ℤ l)
    go s l g x y p q e h = omega (arith, ints, p, q, e, h)

-- CONSISTENT ON A SIDE

-- within its limit by a slack within which each item rests
pub record RestsBy (b : Bounds) (items : List Item) (most : ℤ) (side : Bool) : Type 0 where
  pub slack : ℕ
  pub within : (side_sum side b items +ℤ pos slack) ≡ limit_of side most
  pub rest : AllByRecursion (Rests side b slack) items

rests_by : (side : Bool) (b : Bounds) (items : List Item) (most : ℤ) → is_consistent (Some side) b items most ≡ true → RestsBy b items most side
rests_by true b items most h =
    let p = both_true (int_le (least_sum b items) most) (list_all (is_below b items most) items) h in
    let s = slack_from (least_sum b items) most (le_true (least_sum b items) most p.0) in
    record {
      slack = s.0;
      within = ap (λ k. k +ℤ pos s.0) (side-true b items) ∙ s.1;
      rest = each_from (Rests true b s.0) (is_below b items most) items (below_rests b items most s.0 s.1) p.1;
    }
rests_by false b items most h =
    let p = both_true (int_lt most (greatest_sum b items)) (list_all (is_above b items most) items) h in
    let s = slack_from (neg_ℤ (greatest_sum b items)) (neg_ℤ most -ℤ pos 1) (turn (greatest_sum b items) (lt_true most (greatest_sum b items) p.0)) in
    record {
      slack = s.0;
      within = ap (λ k. k +ℤ pos s.0) (side-false b items) ∙ s.1;
      rest = each_from (Rests false b s.0) (is_above b items most) items (above_rests b items most s.0 s.1) p.1;
    }
  where
    turn : (g : ℤ) → most <ℤ g → neg_ℤ g ≤ℤ (neg_ℤ most -ℤ pos 1)
    turn g h = omega (arith, ints, h)

consistent_by : (side : Bool) (b : Bounds) (items : List Item) (most : ℤ) (slack : ℕ) → (side_sum side b items +ℤ pos slack) ≡ limit_of side most → AllByRecursion (Rests side b slack) items → is_consistent (Some side) b items most ≡ true
consistent_by true b items most slack e a =
    let f = ap (λ k. k +ℤ pos slack) (sym (side-true b items)) ∙ e in
    and_true (int_le (least_sum b items) most) (list_all (is_below b items most) items) (true_le (least_sum b items) most (less (least_sum b items) f))
    (all_from (Rests true b slack) (is_below b items most) items (rests_below b items most slack f) a)
  where
    less : (x : ℤ) → (x +ℤ pos slack) ≡ most → x ≤ℤ most
    less x e = omega (arith, ints, e)
consistent_by false b items most slack e a =
    let f = ap (λ k. k +ℤ pos slack) (sym (side-false b items)) ∙ e in
    and_true (int_lt most (greatest_sum b items)) (list_all (is_above b items most) items) (true_lt most (greatest_sum b items) (over (greatest_sum b items) f))
    (all_from (Rests false b slack) (is_above b items most) items (rests_above b items most slack f) a)
  where
    over : (g : ℤ) → (neg_ℤ g +ℤ pos slack) ≡ (neg_ℤ most -ℤ pos 1) → most <ℤ g
    over g e = omega (arith, ints, e)

consistent_open : (b : Bounds) (items : List Item) (most : ℤ) → side_sum true b items ≤ℤ limit_of true most → side_sum false b items ≤ℤ limit_of false most → is_consistent None b items most ≡ true
consistent_open b items most yea nay =
    and_true (int_le (least_sum b items) most) (int_lt most (greatest_sum b items))
    (true_le (least_sum b items) most (subst (λ (k : ℤ). k ≤ℤ most) (side-true b items) yea))
    (true_lt most (greatest_sum b items) (over (side_sum false b items) (greatest_sum b items) (side-false b items) nay))
  where
    over : (x g : ℤ) → x ≡ neg_ℤ g → x ≤ℤ (neg_ℤ most -ℤ pos 1) → most <ℤ g
    over x g e h = omega (arith, ints, e, h)

-- ON A TRAIL

truth_as : (t : Assignment) (n : ℕ) (side : Bool) → IsAssignment t → truth_on t (Constraint n side) ≡ Some true → truth_on t (Constraint n true) ≡ Some side
truth_as t n true h on = on
truth_as t n false h on = truth-false t (Constraint n true) h (true-truth t (Constraint n false) on)

pub side_as : (t : Assignment) (n : ℕ) (side : Bool) → truth_on t (Constraint n true) ≡ Some side → truth_on t (Constraint n side) ≡ Some true
side_as t n true e = e
side_as t n false e = truth-true t (Constraint n false) (false-truth t (Constraint n true) e)

rests_at : (t : Assignment) (number : ℕ) (items : List Item) (most : ℤ) (o : Option Bool) → truth_on t (Constraint number true) ≡ o → is_consistent o (bounds_on t) items most ≡ true → IsTrue (rests_sum number items most t)
rests_at t number items most o e h = ap (λ p. is_consistent p (bounds_on t) items most) e ∙ h

-- a sum that is true on a side, within its limit, with each item within the slack
pub done_here : (t : Assignment) (number : ℕ) (items : List Item) (most : ℤ) (side : Bool) (slack : ℕ) → IsAssignment t → IsTrue (are_items number items) → IsTrue (fits_sum number items t.shape) → truth_on t (Constraint number side) ≡ Some true → (side_sum side (bounds_on t) items +ℤ pos slack) ≡ limit_of side most → ((k : ℕ) (d : Item) → k < length items → Rests side (bounds_on t) slack (get_or items k d)) → IsQuiet (sum_meaning number items most) t × IsTrue (rests_sum number items most t)
done_here t number items most side slack h i fit on e rest = (
  quiet_here t number items most side slack h i fit on e rest,
  rests_at t number items most (Some side) (truth_as t number side h on) (consistent_by side (bounds_on t) items most slack e (recursion_from_All (Rests side (bounds_on t) slack) items rest)),
)

-- a sum that is open, and excluded on neither side
pub done_open : (t : Assignment) (number : ℕ) (items : List Item) (most : ℤ) → IsAssignment t → IsTrue (are_items number items) → IsTrue (fits_sum number items t.shape) → truth_on t (Constraint number true) ≡ None → side_sum true (bounds_on t) items ≤ℤ limit_of true most → side_sum false (bounds_on t) items ≤ℤ limit_of false most → IsQuiet (sum_meaning number items most) t × IsTrue (rests_sum number items most t)
done_open t number items most h i fit un yea nay = (
  quiet_open t number items most h i fit un yea nay,
  rests_at t number items most None un (consistent_open (bounds_on t) items most yea nay),
)

quiet_side : (t : Assignment) (number : ℕ) (items : List Item) (most : ℤ) (side : Bool) → IsAssignment t → IsTrue (are_items number items) → IsTrue (fits_sum number items t.shape) → truth_on t (Constraint number true) ≡ Some side → is_consistent (Some side) (bounds_on t) items most ≡ true → IsQuiet (sum_meaning number items most) t
quiet_side t number items most side h i fit e c =
    let r = rests_by side (bounds_on t) items most c in
    quiet_here t number items most side r.slack h i fit (side_as t number side e) r.within (All-from_recursion (Rests side (bounds_on t) r.slack) items r.rest)

quiet_neither : (t : Assignment) (number : ℕ) (items : List Item) (most : ℤ) → IsAssignment t → IsTrue (are_items number items) → IsTrue (fits_sum number items t.shape) → truth_on t (Constraint number true) ≡ None → is_consistent None (bounds_on t) items most ≡ true → IsQuiet (sum_meaning number items most) t
quiet_neither t number items most h i fit e c =
    let p = both_true (int_le (least_sum (bounds_on t) items) most) (int_lt most (greatest_sum (bounds_on t) items)) c in
    quiet_open t number items most h i fit e
    (subst (λ (k : ℤ). k ≤ℤ most) (sym (side-true (bounds_on t) items)) (le_true (least_sum (bounds_on t) items) most p.0))
    (under (side_sum false (bounds_on t) items) (greatest_sum (bounds_on t) items) (side-false (bounds_on t) items) (lt_true most (greatest_sum (bounds_on t) items) p.1))
  where
    under : (x g : ℤ) → x ≡ neg_ℤ g → most <ℤ g → x ≤ℤ (neg_ℤ most -ℤ pos 1)
    under x g e h = omega (arith, ints, e, h)

rests_quiet : (number : ℕ) (items : List Item) (most : ℤ) → IsTrue (are_items number items) → (t : Assignment) → IsAssignment t → IsTrue (fits_sum number items t.shape) → IsTrue (rests_sum number items most t) → IsQuiet (sum_meaning number items most) t
rests_quiet number items most i t h fit r = cases (truth_on t (Constraint number true)) refl r
  where
    cases : (o : Option Bool) → truth_on t (Constraint number true) ≡ o → is_consistent o (bounds_on t) items most ≡ true → IsQuiet (sum_meaning number items most) t
    cases (Some side) e c = quiet_side t number items most side h i fit e c
    cases None e c = quiet_neither t number items most h i fit e c

-- WHILE WHAT IT TOUCHES STAYS THE SAME

abbrev SameItem : Bounds → Bounds → Item → Type 0
SameItem b c i = (least_item c i ≡ least_item b i) × (greatest_item c i ≡ greatest_item b i)

times_same : (c l k h j : ℤ) → k ≡ l → j ≡ h → (least_times c k j ≡ least_times c l h) × (greatest_times c k j ≡ greatest_times c l h)
times_same c l k h j e f = (rw (e, f) refl, rw (e, f) refl)

item_same : (t u : Assignment) (i : Item) → SameOf t u (touch_of i) → SameItem (bounds_on t) (bounds_on u) i
item_same t u (Value x c) s =
    times_same c ((bounds_on t).low x) ((bounds_on u).low x) ((bounds_on t).high x) ((bounds_on u).high x)
    (on_low u x ∙ s.0 ∙ sym (on_low t x)) (on_high u x ∙ s.1 ∙ sym (on_high t x))
item_same t u (Truth n c) s =
    times_same c ((bounds_on t).least n) ((bounds_on u).least n) ((bounds_on t).greatest n) ((bounds_on u).greatest n)
    (least-named u.shape.ends (lits_of u.entries) n ∙ ap (λ b. cond b (pos 1) (pos 0)) s.0 ∙ sym (least-named t.shape.ends (lits_of t.entries) n))
    (greatest-named u.shape.ends (lits_of u.entries) n ∙ ap (λ b. cond b (pos 0) (pos 1)) s.1 ∙ sym (greatest-named t.shape.ends (lits_of t.entries) n))

items_same : (t u : Assignment) (items : List Item) → SameOfAll t u (map touch_of items) → AllByRecursion (SameItem (bounds_on t) (bounds_on u)) items
items_same t u [] s = tt
items_same t u (i ∷ is) s = (item_same t u i s.0, items_same t u is s.1)

sums_same : (b c : Bounds) (items : List Item) → AllByRecursion (SameItem b c) items → (least_sum c items ≡ least_sum b items) × (greatest_sum c items ≡ greatest_sum b items)
sums_same b c [] a = (refl, refl)
sums_same b c (i ∷ is) a = let r = sums_same b c is a.1 in (add a.0.0 r.0, add a.0.1 r.1)
  where
    add : {x y u v : ℤ} → x ≡ y → u ≡ v → x +ℤ u ≡ y +ℤ v
    add e f = rw (e, f) refl

below_same : (most s l g r k h : ℤ) → r ≡ s → k ≡ l → h ≡ g → int_le ((r -ℤ k) +ℤ h) most ≡ int_le ((s -ℤ l) +ℤ g) most
below_same most s l g r k h d e f = rw (d, e, f) refl

above_same : (most s l g r k h : ℤ) → r ≡ s → k ≡ l → h ≡ g → int_lt most ((r -ℤ h) +ℤ k) ≡ int_lt most ((s -ℤ g) +ℤ l)
above_same most s l g r k h d e f = rw (d, e, f) refl

consistent_same : (o : Option Bool) (b c : Bounds) (items : List Item) (most : ℤ) → AllByRecursion (SameItem b c) items → is_consistent o c items most ≡ is_consistent o b items most
consistent_same (Some true) b c items most a =
    let s = sums_same b c items a in
    and_same (int_le (least_sum c items) most) (list_all (is_below c items most) items) (int_le (least_sum b items) most) (list_all (is_below b items most) items)
    (ap (λ k. int_le k most) s.0)
    (all_same (SameItem b c) (is_below c items most) (is_below b items most) items (λ i p. below_same most (least_sum b items) (least_item b i) (greatest_item b i) (least_sum c items) (least_item c i) (greatest_item c i) s.0 p.0 p.1) a)
consistent_same (Some false) b c items most a =
    let s = sums_same b c items a in
    and_same (int_lt most (greatest_sum c items)) (list_all (is_above c items most) items) (int_lt most (greatest_sum b items)) (list_all (is_above b items most) items)
    (ap (λ k. int_lt most k) s.1)
    (all_same (SameItem b c) (is_above c items most) (is_above b items most) items (λ i p. above_same most (greatest_sum b items) (least_item b i) (greatest_item b i) (greatest_sum c items) (least_item c i) (greatest_item c i) s.1 p.0 p.1) a)
consistent_same None b c items most a =
    let s = sums_same b c items a in
    and_same (int_le (least_sum c items) most) (int_lt most (greatest_sum c items)) (int_le (least_sum b items) most) (int_lt most (greatest_sum b items)) (ap (λ k. int_le k most) s.0) (ap (λ k. int_lt most k) s.1)

truth_same : (t u : Assignment) (n : ℕ) → SameOf t u (touch.Truth n) → truth_on u (Constraint n true) ≡ truth_on t (Constraint n true)
truth_same t u n s = go (is_true_on t (Constraint n true)) (is_true_on u (Constraint n true)) (is_true_on t (Constraint n false)) (is_true_on u (Constraint n false)) s.0 s.1
  where
    go : (a b c d : Bool) → b ≡ a → d ≡ c → cond b (Some true) (cond d (Some false) None) ≡ cond a (Some true) (cond c (Some false) None)
    go a b c d e f = rw (e, f) refl

rests_last : (number : ℕ) (items : List Item) (most : ℤ) (t u : Assignment) → SameOfAll t u (touches_of number items) → IsTrue (rests_sum number items most t) → IsTrue (rests_sum number items most u)
rests_last number items most t u s h =
    ap (λ o. is_consistent o (bounds_on u) items most) (truth_same t u number s.0)
    ∙ consistent_same (truth_on t (Constraint number true)) (bounds_on t) (bounds_on u) items most (items_same t u items s.1)
    ∙ h

steady : (number : ℕ) (items : List Item) (most : ℤ) → IsTrue (are_items number items) → IsSteady (sum_meaning number items most)
steady number items most i = record { quiet = λ t h f r. rests_quiet number items most i t h f r; lasts = λ t u e s r. rests_last number items most t u s r }

-- THE OBJECTIVE

never_here : (b : Bool) → b ≡ true → b ≡ false → ⊥
never_here b e f = let no : true ≡ false = sym e ∙ f in cc

-- its reasons are steps of the objective, of which nothing is asked
of_objective : (items : List Item) (most : Option ℤ) (s : Shape) (r : Reason) → IsTrue (valid_objective items most s r) → is_of_objective r.step ≡ true
of_objective items most s r h = (both_true (list_all (is_of s) r.nogood) (is_of_objective r.step) (both_true (list_all (is_of s) r.nogood && is_of_objective r.step) (is_beyond most (least_sum (bounds_named s.ends r.nogood) items)) h).0).1

narrows_not : (step : Step) → is_of_objective step ≡ true → narrows step ≡ true → ⊥
narrows_not (Sum zero) e f = let no : false ≡ true = f in cc
narrows_not (Sum (suc n)) e f = let no : false ≡ true = e in cc
narrows_not (Distinct n a b) e f = let no : false ≡ true = e in cc
narrows_not (Window n a b) e f = let no : false ≡ true = e in cc
narrows_not (Pair n i j) e f = let no : false ≡ true = e in cc
narrows_not (Loop atoms) e f = let no : false ≡ true = e in cc
narrows_not (Hole n) e f = let no : false ≡ true = e in cc

objective_items : (s : Shape) (items : List Item) → IsTrue (list_all (is_item_of s) items) → AllByRecursion (λ i. IsTrue (is_item_of s i)) items
objective_items s [] h = tt
objective_items s (i ∷ is) h = let p = both_true (is_item_of s i) (list_all (is_item_of s) is) h in (p.0, objective_items s is p.1)

objective_settled : (items : List Item) (most : Option ℤ) (t : Assignment) → IsAssignment t → IsTrue (list_all (is_item_of t.shape) items) → IsTrue (rests_objective items most t) → IsDecided (objective_meaning items most) t → IsTrue (is_within most (greatest_sum (bounds_on t) items))
objective_settled items None t h fit r d = refl
objective_settled items (Some most) t h fit r d =
    let e = sum_fixed (objective_meaning items (Some most)) t items h d (objective_items t.shape items fit) (λ n f. f) in
    ap (λ k. int_le k most) (sym e) ∙ (both_true (int_le (least_sum (bounds_on t) items) most) (list_all (is_below (bounds_on t) items most) items) r).0

objective_quiet : (items : List Item) (most : Option ℤ) (t : Assignment) → IsAssignment t → IsTrue (list_all (is_item_of t.shape) items) → IsTrue (rests_objective items most t) → IsQuiet (objective_meaning items most) t
objective_quiet items most t h fit r = record {
  none_true = λ q v o a. never_here (is_of_objective q.step) (of_objective items most t.shape q v) o;
  none_forced = λ q l v n a. narrows_not q.step (of_objective items most t.shape q v) n;
  settled = λ d. objective_settled items most t h fit r d;
}

objective_last : (items : List Item) (most : Option ℤ) (t u : Assignment) → SameOfAll t u (map touch_of items) → IsTrue (rests_objective items most t) → IsTrue (rests_objective items most u)
objective_last items None t u s h = refl
objective_last items (Some most) t u s h = consistent_same (Some true) (bounds_on t) (bounds_on u) items most (items_same t u items s) ∙ h

objective_steady : (items : List Item) (most : Option ℤ) → IsSteady (objective_meaning items most)
objective_steady items most = record { quiet = λ t h f r. objective_quiet items most t h f r; lasts = λ t u e s r. objective_last items most t u s r }

-- BY KIND

pub steady_kind : (kind : Kind) (number : ℕ) (items : List Item) (most : ℤ) → IsTrue (are_items number items) → IsSteady (meaning_of kind number items most)
steady_kind kind.Constraint number items most i = steady number items most i
steady_kind kind.Unbounded number items most i = objective_steady items None
steady_kind kind.Bounded number items most i = objective_steady items (Some most)

-- a sum that is true on a side, within its limit, with each item within the slack
pub done_kind : (t : Assignment) (kind : Kind) (number : ℕ) (items : List Item) (most : ℤ) (side : Bool) (slack : ℕ) → IsAssignment t → IsTrue (are_items number items) → IsTrue ((meaning_of kind number items most).fits t.shape) → IsOn t kind number side → (side_sum side (bounds_on t) items +ℤ pos slack) ≡ limit_of side most → ((k : ℕ) (d : Item) → k < length items → Rests side (bounds_on t) slack (get_or items k d)) → IsQuiet (meaning_of kind number items most) t × IsTrue ((meaning_of kind number items most).rests t)
done_kind t kind.Constraint number items most side slack h i fit on e rest = done_here t number items most side slack h i fit (truth-true t (Constraint number side) on.1.0) e rest
done_kind t kind.Unbounded number items most side slack h i fit on e rest = absurd on.0
done_kind t kind.Bounded number items most side slack h i fit on e rest = turn side on.0 e rest
  where
    turn : (side : Bool) → side ≡ true → (side_sum side (bounds_on t) items +ℤ pos slack) ≡ limit_of side most → ((k : ℕ) (d : Item) → k < length items → Rests side (bounds_on t) slack (get_or items k d)) → IsQuiet (objective_meaning items (Some most)) t × IsTrue (rests_objective items (Some most) t)
    turn true a e rest =
        let r = consistent_by true (bounds_on t) items most slack e (recursion_from_All (Rests true (bounds_on t) slack) items rest) in
        (objective_quiet items (Some most) t h fit r, r)
    turn false a e rest = absurd (let no : false ≡ true = a in cc)

-- an objective without a bound has nothing to say
pub done_unbounded : (t : Assignment) (items : List Item) → IsAssignment t → IsTrue (list_all (is_item_of t.shape) items) → IsQuiet (objective_meaning items None) t × IsTrue (rests_objective items None t)
done_unbounded t items h fit = (objective_quiet items None t h fit refl, refl)
