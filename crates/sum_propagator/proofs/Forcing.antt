-- One literal more: the range of one item alone is another, and its least value is within the slack.
use Rattle.std.proofs.Common.{◌≡◌, ℕ, suc, ◌<◌, Bool, true, false, not, ◌&&◌, IsTrue, refl, arith, List, [], ◌∷◌, length, get_or, None, ℤ, pos, ◌+ℤ◌, ◌≤ℤ◌}
use Rattle.std.specs.List.{AllByRecursion, list_all}
use Rattle.std.proofs.lemmas.Bool.Decides.{nat_tests}
use Rattle.std.proofs.lemmas.Int.{ints}
use Rattle.literals.specs.declared.lit.Lit.{Lit}
use Rattle.literals.specs.declared.lit.Lit.TheVariants.{Constraint, AtMost, AtLeast}
use Rattle.linear_normal.specs.declared.constraint.Item.{Item}
use Rattle.linear_normal.specs.declared.constraint.Item.TheVariants.{Value, Truth}
use Rattle.linear_normal.specs.Bounds.{Bounds}
use Rattle.trail.specs.Assignment.{Assignment, IsAssignment, truth_on}
use Rattle.numbering_laws.specs.Items.{same_counted, counts_truth, are_items}
use Rattle.trail_bounds.specs.OnTrail.{bounds_on}
use Rattle.trail_bounds.specs.Sides.{side_least, side_sum, Rests}
use Rattle.trail_bounds.proofs.Following.{bounds_with, touches, other_item, other_items, this_item}

-- what speaks of one item speaks of no other
pub not_both : (l : Lit) (i j : Item) → touches l i ≡ true → same_counted i j ≡ false → touches l j ≡ false
not_both (AtMost y k) (Value x c) (Value z d) = λ h g. grind (arith, nat_tests)
not_both (AtLeast y k) (Value x c) (Value z d) = λ h g. grind (arith, nat_tests)
not_both (Constraint m s) (Truth n c) (Truth o d) = λ h g. grind (arith, nat_tests)
not_both (AtMost y k) (Value x c) (Truth z d) = λ h g. refl
not_both (AtLeast y k) (Value x c) (Truth z d) = λ h g. refl
not_both (Constraint m s) (Truth n c) (Value o d) = λ h g. refl
not_both _ _ _ = λ h g. cc

pub none_after : (l : Lit) (i : Item) (is : List Item) → touches l i ≡ true → AllByRecursion (λ j. same_counted i j ≡ false) is → AllByRecursion (λ j. touches l j ≡ false) is
none_after l i [] h a = tt
none_after l i (j ∷ js) h a = (not_both l i j h a.0, none_after l i js h a.1)

-- no two items count the same
abbrev pub NoRepeat : List Item → Type 0
NoRepeat [] = Unit {0}
NoRepeat (i ∷ is) = AllByRecursion (λ j. same_counted i j ≡ false) is × NoRepeat is

unlike : (i : Item) (is : List Item) → list_all (λ j. not (same_counted i j)) is ≡ true → AllByRecursion (λ j. same_counted i j ≡ false) is
unlike i [] h = tt
unlike i (j ∷ js) h = (grind (arith, nat_tests), unlike i js (grind (arith, nat_tests)))

split_items : (number : ℕ) (i : Item) (is : List Item) → IsTrue (are_items number (i ∷ is)) → (counts_truth number i ≡ false) × (list_all (λ j. not (same_counted i j)) is ≡ true) × IsTrue (are_items number is)
split_items number i is h = parts (counts_truth number i) (list_all (λ j. not (same_counted i j)) is) (are_items number is) h
  where
    parts : (a b c : Bool) → IsTrue ((not a && b) && c) → (a ≡ false) × (b ≡ true) × IsTrue c
    parts a b c h = (grind (arith, nat_tests), grind (arith, nat_tests), grind (arith, nat_tests))

pub once_rec : (number : ℕ) (items : List Item) → IsTrue (are_items number items) → NoRepeat items
once_rec number [] h = tt
once_rec number (i ∷ is) h = let s = split_items number i is h in (unlike i is s.1, once_rec number is s.2)

-- one literal more raises the least sum by no more than the slack
pub one_lit : (t : Assignment) (side : Bool) (l : Lit) (slack : ℕ) (items : List Item) → IsAssignment t → truth_on t l ≡ None → NoRepeat items → AllByRecursion (Rests side (bounds_on t) slack) items → side_sum side (bounds_with t l) items ≤ℤ (side_sum side (bounds_on t) items +ℤ pos slack)
one_lit t side l slack [] h o d r = omega (arith, ints)
one_lit t side l slack (i ∷ is) h o d r = cases (touches l i) refl (one_lit t side l slack is h o d.1 r.1)
  where
    plus_left : (x y u v : ℤ) (s : ℕ) → x ≤ℤ (y +ℤ pos s) → u ≡ v → (x +ℤ u) ≤ℤ ((y +ℤ v) +ℤ pos s)
    plus_left x y u v s h e = omega (arith, ints, h, e)

    plus_right : (x y u v : ℤ) (s : ℕ) → x ≡ y → u ≤ℤ (v +ℤ pos s) → (x +ℤ u) ≤ℤ ((y +ℤ v) +ℤ pos s)
    plus_right x y u v s e h = omega (arith, ints, h, e)

    cases : (q : Bool) → touches l i ≡ q → side_sum side (bounds_with t l) is ≤ℤ (side_sum side (bounds_on t) is +ℤ pos slack) → (side_least side (bounds_with t l) i +ℤ side_sum side (bounds_with t l) is) ≤ℤ ((side_least side (bounds_on t) i +ℤ side_sum side (bounds_on t) is) +ℤ pos slack)
    cases true e g = plus_left (side_least side (bounds_with t l) i) (side_least side (bounds_on t) i) (side_sum side (bounds_with t l) is) (side_sum side (bounds_on t) is) slack (this_item t side l i slack h o r.0) (other_items t side l is (none_after l i is e d.0))
    cases false e g = plus_right (side_least side (bounds_with t l) i) (side_least side (bounds_on t) i) (side_sum side (bounds_with t l) is) (side_sum side (bounds_on t) is) slack (other_item t side l i e) g

pub rests_rec : (b : Bounds) (side : Bool) (slack : ℕ) (items : List Item) → ((k : ℕ) (d : Item) → k < length items → Rests side b slack (get_or items k d)) → AllByRecursion (Rests side b slack) items
rests_rec b side slack [] h = tt
rests_rec b side slack (i ∷ is) h = (h 0 i (omega arith), rests_rec b side slack is (λ k d lt. h (suc k) d (omega (arith, lt))))

-- the sum's own constraint is none of the items
pub own_off : (number : ℕ) (s : Bool) (items : List Item) → IsTrue (are_items number items) → AllByRecursion (λ i. touches (Constraint number s) i ≡ false) items
own_off number s [] h = tt
own_off number s (i ∷ is) h = let p = split_items number i is h in (one i p.0, own_off number s is p.2)
  where
    one : (i : Item) → counts_truth number i ≡ false → touches (Constraint number s) i ≡ false
    one (Value x c) e = refl
    one (Truth n c) e = grind (arith, nat_tests)
