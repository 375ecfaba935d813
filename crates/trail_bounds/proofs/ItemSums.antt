-- Sums of items under bounds, item after item.
use Rattle.std.proofs.Common.{◌≡◌, ℕ, zero, suc, ◌+◌, ◌<◌, ◌≤◌, Bool, true, false, refl, ◌∙◌, arith, List, [], ◌∷◌, length, get_or, ℤ, neg_ℤ, ◌+ℤ◌, ◌≤ℤ◌}
use Rattle.std.proofs.lemmas.Int.{ints}
use Rattle.symbols.specs.declared.ends.Ends.{Ends}
use Rattle.literals.specs.declared.lit.Lit.{Lit}
use Rattle.linear_normal.specs.declared.constraint.Item.{Item}
use Rattle.linear_normal.specs.declared.constraint.Item.TheVariants.{Value, Truth}
use Rattle.linear_normal.specs.Bounds.{Bounds, bounds_named, least_times, greatest_times, least_item, greatest_item, least_sum, greatest_sum}
use Rattle.trail_bounds.specs.Items.{coefficient_of, low_in, high_in}
use Rattle.trail_bounds.specs.Sides.{signed_by, side_least, side_sum}
use Rattle.trail_bounds.proofs.Times.{least_times_up, least_opposite}
use Rattle.trail_bounds.proofs.Ranges.{low_says, high_says, Says}

-- each item no less: the sum no less
pub sum_up : (side : Bool) (a b : Bounds) (items : List Item) → ((k : ℕ) (d : Item) → k < length items → side_least side a (get_or items k d) ≤ℤ side_least side b (get_or items k d)) → side_sum side a items ≤ℤ side_sum side b items
sum_up side a b [] h = omega (arith, ints)
sum_up side a b (i ∷ is) h =
    let here = h 0 i (omega arith) in
    let rest = sum_up side a b is (λ k d lt. h (suc k) d (omega (arith, lt))) in
    both (side_least side a i) (side_least side b i) (side_sum side a is) (side_sum side b is) here rest
  where
    both : (x y u v : ℤ) → x ≤ℤ y → u ≤ℤ v → (x +ℤ u) ≤ℤ (y +ℤ v)
    both x y u v h g = omega (arith, ints, h, g)

pub item_says : (side : Bool) (ends : Ends) (ls ms : List Lit) (i : Item) → Says ends ls ms → side_least side (bounds_named ends ls) i ≤ℤ side_least side (bounds_named ends ms) i
item_says side ends ls ms i h =
    least_times_up (signed_by side (coefficient_of i)) (low_in (bounds_named ends ls) i) (high_in (bounds_named ends ls) i) (low_in (bounds_named ends ms) i) (high_in (bounds_named ends ms) i) (low_says ends ls ms i h) (high_says ends ls ms i h)

-- what follows from one list follows from another: its least sum is no more
pub sum_says : (side : Bool) (ends : Ends) (ls ms : List Lit) (items : List Item) → Says ends ls ms → side_sum side (bounds_named ends ls) items ≤ℤ side_sum side (bounds_named ends ms) items
sum_says side ends ls ms items h = sum_up side (bounds_named ends ls) (bounds_named ends ms) items (λ k d lt. item_says side ends ls ms (get_or items k d) h)

pub at_place : (xs : List Item) (i : ℕ) (d e : Item) → i < length xs → get_or xs i d ≡ get_or xs i e
at_place [] i d e lt = absurd (omega (arith, lt))
at_place (x ∷ xs) zero d e lt = refl
at_place (x ∷ xs) (suc i) d e lt = at_place xs i d e (omega (arith, lt))

pub item_least : (b : Bounds) (i : Item) → least_times (signed_by true (coefficient_of i)) (low_in b i) (high_in b i) ≡ least_item b i
item_least b (Value x c) = refl
item_least b (Truth n c) = refl

pub item_greatest : (b : Bounds) (i : Item) → greatest_times (signed_by true (coefficient_of i)) (low_in b i) (high_in b i) ≡ greatest_item b i
item_greatest b (Value x c) = refl
item_greatest b (Truth n c) = refl

pub item_opposite : (b : Bounds) (i : Item) → least_times (signed_by false (coefficient_of i)) (low_in b i) (high_in b i) ≡ neg_ℤ (greatest_item b i)
item_opposite b (Value x c) = least_opposite c (b.low x) (b.high x)
item_opposite b (Truth n c) = least_opposite c (b.least n) (b.greatest n)

pub one_least : (b : Bounds) (i : Item) (c low high r : ℤ) → r ≡ least_times c low high → c ≡ coefficient_of i → low ≡ low_in b i → high ≡ high_in b i → r ≡ least_item b i
one_least b i c low high r v e f g = v ∙ rw (e, f, g) (item_least b i)

pub one_greatest : (b : Bounds) (i : Item) (c low high r : ℤ) → r ≡ greatest_times c low high → c ≡ coefficient_of i → low ≡ low_in b i → high ≡ high_in b i → r ≡ greatest_item b i
one_greatest b i c low high r v e f g = v ∙ rw (e, f, g) (item_greatest b i)

pub side-true : (b : Bounds) (items : List Item) → side_sum true b items ≡ least_sum b items
side-true b [] = refl
side-true b (i ∷ is) = add (item_least b i) (side-true b is)
  where
    add : {x y u v : ℤ} → x ≡ y → u ≡ v → x +ℤ u ≡ y +ℤ v
    add e f = rw (e, f) refl

pub side-false : (b : Bounds) (items : List Item) → side_sum false b items ≡ neg_ℤ (greatest_sum b items)
side-false b [] = refl
side-false b (i ∷ is) = add (side_least false b i) (greatest_item b i) (side_sum false b is) (greatest_sum b is) (item_opposite b i) (side-false b is)
  where
    add : (x y u v : ℤ) → x ≡ neg_ℤ y → u ≡ neg_ℤ v → x +ℤ u ≡ neg_ℤ (y +ℤ v)
    add x y u v e f = omega (arith, ints, e, f)
