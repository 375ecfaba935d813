-- How far apart items' values lie: within the slack nothing is forced, and what holds after some entries holds after more.
use Rattle.std.proofs.Common.{◌≡◌, ℕ, ◌+◌, ◌<◌, ◌≤◌, Bool, true, false, refl, sym, ◌∙◌, ap, subst, arith, List, length, get_or, take, drop, Option, None, Some, ℤ, pos, neg_ℤ, ◌+ℤ◌, ◌≤ℤ◌, ◌⊎◌, inl, inr}
use Rattle.std.specs.Prelude.{IsSomeAnd}
use Rattle.std.proofs.lemmas.Int.{ints}
use Rattle.std.proofs.lemmas.List.{map-append, take-append-drop, take_all}
use Rattle.symbols.specs.declared.ends.Ends.{Ends}
use Rattle.literals.specs.declared.lit.Lit.{Lit}
use Rattle.linear_normal.specs.declared.constraint.Item.{Item}
use Rattle.linear_normal.specs.declared.constraint.Item.TheVariants.{Value, Truth}
use Rattle.linear_normal.specs.Bounds.{Bounds, bounds_named, least_times, greatest_times, least_item, greatest_item, least_sum, greatest_sum}
use Rattle.trail.specs.declared.entry.Entry.{Entry}
use Rattle.trail.specs.Implied.{implied}
use Rattle.trail.specs.Assignment.{Assignment, lits_of}
use Rattle.trail.specs.Growth.{Grows}
use Rattle.trail.proofs.ImpliedLaws.{implied_stays}
use Rattle.propagator_core.specs.Standing.{StandsFor}
use Rattle.propagator_core.proofs.SeveralLaws.{stands_on}
use Rattle.sum_propagator.specs.declared.sum.Totals.{Totals}
use Rattle.trail_bounds.specs.OnTrail.{bounds_on}
use Rattle.sum_propagator.specs.Sums.{totals_after, IsWithin, AreWithin, StandsAt}
use Rattle.trail_bounds.specs.Items.{coefficient_of, low_in, high_in}
use Rattle.trail_bounds.specs.Sides.{signed_by, side_least, side_greatest, Rests}
use Rattle.trail_bounds.proofs.Times.{least_opposite}
use Rattle.trail_bounds.proofs.Ranges.{Says}
use Rattle.sum_propagator.proofs.Settling.{total_kept}
use Rattle.trail_bounds.proofs.ItemSums.{one_least, one_greatest, item_least, item_greatest, item_opposite, item_says}

more : (x y : ℤ) (w v : ℕ) → w ≤ v → x ≤ℤ (y +ℤ pos w) → x ≤ℤ (y +ℤ pos v)
more x y w v h g = omega (arith, ints, h, g)

pub within_more : (b : Bounds) (i : Item) (w v : ℕ) → w ≤ v → IsWithin w b i → IsWithin v b i
within_more b i w v h g = more (greatest_item b i) (least_item b i) w v h g

-- ITEM AFTER ITEM

pub within_from : (b : Bounds) (i : Item) (c low high : ℤ) (w : ℕ) → c ≡ signed_by true (coefficient_of i) → low ≡ low_in b i → high ≡ high_in b i → greatest_times c low high ≤ℤ (least_times c low high +ℤ pos w) → IsWithin w b i
within_from b i c low high w e f g h =
    same (greatest_times c low high) (greatest_item b i) (least_times c low high) (least_item b i)
    (one_greatest b i c low high (greatest_times c low high) refl e f g) (one_least b i c low high (least_times c low high) refl e f g) h
  where
    same : (x y u v : ℤ) → x ≡ y → u ≡ v → x ≤ℤ (u +ℤ pos w) → y ≤ℤ (v +ℤ pos w)
    same x y u v e f h = omega (arith, ints, e, f, h)

pub within_next : (b : Bounds) (items : List Item) (w v at : ℕ) (i : Item) → w ≤ v → IsWithin v b i → ((d : Item) → get_or items at d ≡ i) → ((k : ℕ) (d : Item) → k < at → IsWithin w b (get_or items k d)) → (k : ℕ) (d : Item) → k < at + 1 → IsWithin v b (get_or items k d)
within_next b items w v at i le here is before k d lt = cases (split k at lt)
  where
    split : (k at : ℕ) → k < at + 1 → (k < at) ⊎ (k ≡ at)
    split k at lt = grind arith

    cases : (k < at) ⊎ (k ≡ at) → IsWithin v b (get_or items k d)
    cases (inl less) = within_more b (get_or items k d) w v le (before k d less)
    cases (inr same) = subst (λ (n : ℕ). IsWithin v b (get_or items n d)) (sym same) (subst (λ (j : Item). IsWithin v b j) (sym (is d)) here)

-- WITHIN THE SLACK

opposite_twice : (c : ℤ) → neg_ℤ (neg_ℤ c) ≡ c
opposite_twice c = omega (arith, ints)

greatest_opposite : (c low high : ℤ) → greatest_times (neg_ℤ c) low high ≡ neg_ℤ (least_times c low high)
greatest_opposite c low high =
    back (greatest_times (neg_ℤ c) low high) (least_times c low high) (sym (ap (λ d. least_times d low high) (opposite_twice c)) ∙ least_opposite (neg_ℤ c) low high)
  where
    back : (x y : ℤ) → y ≡ neg_ℤ x → x ≡ neg_ℤ y
    back x y e = omega (arith, ints, e)

pub greatest_turned : (b : Bounds) (i : Item) → side_greatest false b i ≡ neg_ℤ (least_item b i)
greatest_turned b (Value x c) = greatest_opposite c (b.low x) (b.high x)
greatest_turned b (Truth n c) = greatest_opposite c (b.least n) (b.greatest n)

pub rests_within : (side : Bool) (b : Bounds) (i : Item) (w slack : ℕ) → w ≤ slack → IsWithin w b i → Rests side b slack i
rests_within true b i w slack le h =
    same (greatest_item b i) (side_greatest true b i) (least_item b i) (side_least true b i) (item_greatest b i) (item_least b i) (within_more b i w slack le h)
  where
    same : (x y u v : ℤ) → y ≡ x → v ≡ u → x ≤ℤ (u +ℤ pos slack) → y ≤ℤ (v +ℤ pos slack)
    same x y u v e f h = omega (arith, ints, e, f, h)
rests_within false b i w slack le h =
    turn (greatest_item b i) (side_greatest false b i) (least_item b i) (side_least false b i) (greatest_turned b i) (item_opposite b i) (within_more b i w slack le h)
  where
    turn : (x y u v : ℤ) → y ≡ neg_ℤ u → v ≡ neg_ℤ x → x ≤ℤ (u +ℤ pos slack) → y ≤ℤ (v +ℤ pos slack)
    turn x y u v e f h = omega (arith, ints, e, f, h)

-- what is known of all values says that each item rests within the slack
pub all_rest : (side : Bool) (b : Bounds) (items : List Item) (widest : Option ℕ) (slack : ℕ) → AreWithin widest b items → IsSomeAnd widest (λ w. w ≤ slack) → (k : ℕ) (d : Item) → k < length items → Rests side b slack (get_or items k d)
all_rest side b items None slack h g k d lt = absurd g
all_rest side b items (Some w) slack h g k d lt = rests_within side b (get_or items k d) w slack g (h k d lt)

-- AFTER MORE ENTRIES

within_says : (ends : Ends) (ls ms : List Lit) (w : ℕ) (i : Item) → Says ends ls ms → IsWithin w (bounds_named ends ls) i → IsWithin w (bounds_named ends ms) i
within_says ends ls ms w i s h =
    closer (greatest_item (bounds_named ends ls) i) (greatest_item (bounds_named ends ms) i) (least_item (bounds_named ends ls) i) (least_item (bounds_named ends ms) i)
    (side_least true (bounds_named ends ls) i) (side_least true (bounds_named ends ms) i) (side_least false (bounds_named ends ls) i) (side_least false (bounds_named ends ms) i)
    (item_least (bounds_named ends ls) i) (item_least (bounds_named ends ms) i) (item_opposite (bounds_named ends ls) i) (item_opposite (bounds_named ends ms) i)
    (item_says true ends ls ms i s) (item_says false ends ls ms i s) h
  where
    closer : (x y u v a b p q : ℤ) → a ≡ u → b ≡ v → p ≡ neg_ℤ x → q ≡ neg_ℤ y → a ≤ℤ b → p ≤ℤ q → x ≤ℤ (u +ℤ pos w) → y ≤ℤ (v +ℤ pos w)
    closer x y u v a b p q d e f g i j h = omega (arith, ints, d, e, f, g, i, j, h)

says_taken : (ends : Ends) (n : ℕ) (es : List Entry) → Says ends (lits_of (take n es)) (lits_of es)
says_taken ends n es l h =
    subst (λ (xs : List Entry). implied ends (lits_of xs) l ≡ true) (take-append-drop n es)
    (subst (λ (ls : List Lit). implied ends ls l ≡ true) (sym (map-append (λ (e : Entry). e.lit) (take n es) (drop n es))) (implied_stays ends (lits_of (take n es)) (lits_of (drop n es)) l h))

pub within_later : (t : Assignment) (items : List Item) (widest : Option ℕ) (n : ℕ) → AreWithin widest (bounds_named t.shape.ends (lits_of (take n t.entries))) items → AreWithin widest (bounds_on t) items
within_later t items None n h = tt
within_later t items (Some w) n h = λ k d lt. within_says t.shape.ends (lits_of (take n t.entries)) (lits_of t.entries) w (get_or items k d) (says_taken t.shape.ends n t.entries) (h k d lt)

pub totals_stand : (t : Assignment) (items : List Item) (kept : Option Totals) (widest : Option ℕ) (seen : ℕ) → StandsFor (StandsAt items kept widest) seen t → StandsFor (λ ends entries. kept ≡ totals_after items ends entries) seen t
totals_stand t items kept widest seen h = record { within = h.within; for_these = h.for_these.0 }

pub widths_stand : (t : Assignment) (items : List Item) (kept : Option Totals) (widest : Option ℕ) (seen : ℕ) → StandsFor (StandsAt items kept widest) seen t → AreWithin widest (bounds_on t) items
widths_stand t items kept widest seen h = within_later t items widest seen h.for_these.1

-- the totals and the number stand for the trail on which they were taken, and for what it grew to
pub stands_now : (P : Assignment → Entry → Type 0) (t new : Assignment) (items : List Item) (kept : Option Totals) (totals : Totals) (widest : Option ℕ) (seen : ℕ) → Grows P t new → seen ≡ length t.entries → (seen ≡ 0 → kept ≡ None) → (0 < seen → kept ≡ Some totals) → totals.least ≡ least_sum (bounds_on t) items → totals.greatest ≡ greatest_sum (bounds_on t) items → AreWithin widest (bounds_on t) items → StandsFor (StandsAt items kept widest) seen new
stands_now P t new items kept totals widest seen g e z s f h w = stands_on P (StandsAt items kept widest) seen t new g (record {
  within = omega (arith, e);
  for_these = subst (λ (es : List Entry). StandsAt items kept widest t.shape.ends es) (sym (take_all seen t.entries (omega (arith, e))))
      (total_kept items t.shape.ends t.entries kept totals (λ n. z (e ∙ n)) (λ lt. s (omega (arith, e, lt))) f h, w);
})
