-- A literal that an item needs is open, and its opposite makes the item exceed the slack; a reason whose other literals are true forces it; what stays as the trail grows.
use Rattle.std.proofs.Common.{◌≡◌, ℕ, suc, ◌+◌, ◌<◌, Bool, true, false, ◌||◌, IsTrue, refl, sym, ◌∙◌, ap, subst, arith, List, [], ◌∷◌, length, Option, None, Some, IfSome, IfNone, ℤ, pos, ◌+ℤ◌, ◌-ℤ◌, ◌≤ℤ◌, ◌<ℤ◌, inl, inr}
use Rattle.std.specs.Prelude.{int_le}
use Rattle.std.specs.List.{AllByRecursion, Contains, list_any}
use Rattle.std.proofs.lemmas.Bool.Decides.{nat_tests}
use Rattle.std.proofs.lemmas.Int.{ints}
use Rattle.std.proofs.lemmas.List.{length-append}
use Rattle.std.proofs.lemmas.List.Elements.{All-from_recursion, All-contains}
use Rattle.literals.specs.declared.lit.Lit.{Lit}
use Rattle.literals.specs.declared.reason.Reason.{Reason}
use Rattle.literals.specs.Lits.{implies_lit, complement_of}
use Rattle.linear_normal.specs.declared.constraint.Item.{Item}
use Rattle.linear_normal.specs.declared.constraint.Item.TheVariants.{Value, Truth}
use Rattle.linear_normal.specs.Bounds.{bounds_named, least_times, greatest_times}
use Rattle.trail.specs.declared.shape.Shape.{Shape}
use Rattle.trail.specs.declared.entry.Entry.{Entry}
use Rattle.trail.specs.declared.entry.Why.TheVariants.{Shown}
use Rattle.trail.specs.declared.entry.Placed.{Placed}
use Rattle.trail.specs.declared.entry.Placed.TheVariants.{Already, Clash, Done}
use Rattle.trail.specs.Implied.{implied, ends_imply}
use Rattle.trail.specs.Assignment.{Assignment, IsAssignment, Names, lits_of, is_true_on, truth_on, entry_of, Places}
use Rattle.trail.specs.Growth.{Grows}
use Rattle.trail.specs.Forced.{OthersTrueOn, Forces}
use Rattle.trail.proofs.ImpliedLaws.{implied_trans, truth-of}
use Rattle.trail.proofs.AssignmentLaws.{true-truth, truth-true}
use Rattle.trail.proofs.GrowthLaws.{grows_set, grows_shape, grows_true}
use Rattle.trail_bounds.specs.OnTrail.{is_item_of, bounds_on}
use Rattle.trail_bounds.specs.Items.{coefficient_of, low_in, high_in, at_least, at_most}
use Rattle.trail_bounds.specs.inner.Ranges.{InRange}
use Rattle.trail_bounds.specs.Sides.{signed_by, side_sum, Rests}
use Rattle.trail_bounds.specs.inner.Steps.{Lowers, Raises, Narrows}
use Rattle.trail_bounds.specs.inner.Lists.{IsOrTrue}
use Rattle.trail_bounds.specs.Needing.{IsNeeded}
use Rattle.trail_bounds.specs.declared.implied.Needed.{Needed}
use Rattle.trail_bounds.proofs.Ranges.{SaysLeast, SaysMost, implied-least, implied-most, range_is, Says}
use Rattle.trail_bounds.proofs.Backs.{least_names, most_names}
use Rattle.trail_bounds.proofs.ItemSums.{sum_says}

most_opposite : (i : Item) (k : ℤ) → complement_of (at_most i k) ≡ at_least i (k +ℤ pos 1)
most_opposite (Value x c) k = refl
most_opposite (Truth n c) k = refl

least_opposite_lit : (i : Item) (k : ℤ) → complement_of (at_least i k) ≡ at_most i (k -ℤ pos 1)
least_opposite_lit (Value x c) k = refl
least_opposite_lit (Truth n c) k = refl

-- numbers within the range
inner_most : (i : Item) (low high k : ℤ) → InRange i low → InRange i high → low ≤ℤ k → k <ℤ high → InRange i k × InRange i (k +ℤ pos 1) × SaysMost i k × SaysLeast i (k +ℤ pos 1)
inner_most (Value x c) low high k a b h g = (
  (let a0 = a.0 in omega (arith, ints, a0, h), let b1 = b.1 in omega (arith, ints, b1, g)),
  (let a0 = a.0 in omega (arith, ints, a0, h), let b1 = b.1 in omega (arith, ints, b1, g)),
  refl,
  refl,
)
inner_most (Truth n c) low high k a b h g =
    let a0 = a.0 in
    let b1 = b.1 in (
      (omega (arith, ints, a0, h), omega (arith, ints, b1, g)),
      (omega (arith, ints, a0, h), omega (arith, ints, b1, g)),
      omega (arith, ints, a0, b1, h, g),
      omega (arith, ints, a0, b1, h, g),
    )

inner_least : (i : Item) (low high k : ℤ) → InRange i low → InRange i high → low <ℤ k → k ≤ℤ high → InRange i k × InRange i (k -ℤ pos 1) × SaysLeast i k × SaysMost i (k -ℤ pos 1)
inner_least (Value x c) low high k a b h g = (
  (let a0 = a.0 in omega (arith, ints, a0, h), let b1 = b.1 in omega (arith, ints, b1, g)),
  (let a0 = a.0 in omega (arith, ints, a0, h), let b1 = b.1 in omega (arith, ints, b1, g)),
  refl,
  refl,
)
inner_least (Truth n c) low high k a b h g =
    let a0 = a.0 in
    let b1 = b.1 in (
      (omega (arith, ints, a0, h), omega (arith, ints, b1, g)),
      (omega (arith, ints, a0, h), omega (arith, ints, b1, g)),
      omega (arith, ints, a0, b1, h, g),
      omega (arith, ints, a0, b1, h, g),
    )

le_not : (a b : ℤ) → b <ℤ a → int_le a b ≡ false
le_not a b h = grind (arith, nat_tests, ints)

le_true : (a b : ℤ) → int_le a b ≡ true → a ≤ℤ b
le_true a b h = grind (arith, nat_tests, ints)

next_not : (k low : ℤ) → low ≤ℤ k → int_le (k +ℤ pos 1) low ≡ false
next_not k low h = grind (arith, nat_tests, ints)

before_not : (k high : ℤ) → k ≤ℤ high → int_le high (k -ℤ pos 1) ≡ false
before_not k high h = grind (arith, nat_tests, ints)

lowers_narrow : (t : Assignment) (side : Bool) (i : Item) (slack : ℕ) (l : Lit) → IsAssignment t → IsTrue (is_item_of t.shape i) → Lowers i (signed_by side (coefficient_of i)) slack (low_in (bounds_on t) i) (high_in (bounds_on t) i) l → IsNeeded t side i slack l
lowers_narrow t side i slack l h n w =
    let r = range_is t i h in
    let k : ℤ = w.bound in
    let m = inner_most i (low_in (bounds_on t) i) (high_in (bounds_on t) i) w.bound r.0 r.1 w.above w.below in
    let no : implied t.shape.ends (lits_of t.entries) (at_most i w.bound) ≡ false = implied-most t.shape.ends (lits_of t.entries) i w.bound m.2 ∙ le_not (high_in (bounds_on t) i) w.bound w.below in
    let never : implied t.shape.ends (lits_of t.entries) (complement_of (at_most i w.bound)) ≡ false =
    ap (implied t.shape.ends (lits_of t.entries)) (most_opposite i w.bound) ∙ implied-least t.shape.ends (lits_of t.entries) i (w.bound +ℤ pos 1) m.3 ∙ next_not w.bound (low_in (bounds_on t) i) w.above
    in
    subst (λ (q : Lit). IsNeeded t side i slack q) (sym w.is) (record {
      names = most_names t.shape i w.bound n m.0;
      opposite = subst (Names t.shape) (sym (most_opposite i w.bound)) (least_names t.shape i (w.bound +ℤ pos 1) n m.1);
      is_open = truth-of t.shape.ends (lits_of t.entries) (at_most i w.bound) false false no never;
      beyond = λ ms f. w.beyond (low_in (bounds_named t.shape.ends ms) i) (high_in (bounds_named t.shape.ends ms) i)
          (le_true (w.bound +ℤ pos 1) (low_in (bounds_named t.shape.ends ms) i) (sym (implied-least t.shape.ends ms i (w.bound +ℤ pos 1) m.3) ∙ ap (implied t.shape.ends ms) (sym (most_opposite i w.bound)) ∙ f));
    })

raises_narrow : (t : Assignment) (side : Bool) (i : Item) (slack : ℕ) (l : Lit) → IsAssignment t → IsTrue (is_item_of t.shape i) → Raises i (signed_by side (coefficient_of i)) slack (low_in (bounds_on t) i) (high_in (bounds_on t) i) l → IsNeeded t side i slack l
raises_narrow t side i slack l h n w =
    let r = range_is t i h in
    let m = inner_least i (low_in (bounds_on t) i) (high_in (bounds_on t) i) w.bound r.0 r.1 w.above w.below in
    let no : implied t.shape.ends (lits_of t.entries) (at_least i w.bound) ≡ false = implied-least t.shape.ends (lits_of t.entries) i w.bound m.2 ∙ le_not w.bound (low_in (bounds_on t) i) w.above in
    let never : implied t.shape.ends (lits_of t.entries) (complement_of (at_least i w.bound)) ≡ false =
    ap (implied t.shape.ends (lits_of t.entries)) (least_opposite_lit i w.bound) ∙ implied-most t.shape.ends (lits_of t.entries) i (w.bound -ℤ pos 1) m.3 ∙ before_not w.bound (high_in (bounds_on t) i) w.below
    in
    subst (λ (q : Lit). IsNeeded t side i slack q) (sym w.is) (record {
      names = least_names t.shape i w.bound n m.0;
      opposite = subst (Names t.shape) (sym (least_opposite_lit i w.bound)) (most_names t.shape i (w.bound -ℤ pos 1) n m.1);
      is_open = truth-of t.shape.ends (lits_of t.entries) (at_least i w.bound) false false no never;
      beyond = λ ms f. w.beyond (low_in (bounds_named t.shape.ends ms) i) (high_in (bounds_named t.shape.ends ms) i)
          (le_true (high_in (bounds_named t.shape.ends ms) i) (w.bound -ℤ pos 1) (sym (implied-most t.shape.ends ms i (w.bound -ℤ pos 1) m.3) ∙ ap (implied t.shape.ends ms) (sym (least_opposite_lit i w.bound)) ∙ f));
    })

narrows_at : (t : Assignment) (side : Bool) (i : Item) (slack : ℕ) (l : Lit) → IsAssignment t → IsTrue (is_item_of t.shape i) → Narrows i (signed_by side (coefficient_of i)) slack (low_in (bounds_on t) i) (high_in (bounds_on t) i) l → IsNeeded t side i slack l
narrows_at t side i slack l h n (inl w) = lowers_narrow t side i slack l h n w
narrows_at t side i slack l h n (inr w) = raises_narrow t side i slack l h n w

pub narrow_is : (t : Assignment) (side : Bool) (i : Item) (slack : ℕ) (l : Lit) (c from to : ℤ) → IsAssignment t → IsTrue (is_item_of t.shape i) → c ≡ signed_by side (coefficient_of i) → from ≡ low_in (bounds_on t) i → to ≡ high_in (bounds_on t) i → Narrows i c slack from to l → IsNeeded t side i slack l
narrow_is t side i slack l c from to h n e f g w =
    narrows_at t side i slack l h n
    (subst (λ (k : ℤ). Narrows i (signed_by side (coefficient_of i)) slack (low_in (bounds_on t) i) k l) g
    (subst (λ (k : ℤ). Narrows i (signed_by side (coefficient_of i)) slack k to l) f
    (subst (λ (k : ℤ). Narrows i k slack from to l) e w)))

pub rests_is : (t : Assignment) (side : Bool) (i : Item) (slack : ℕ) (c low high : ℤ) → c ≡ signed_by side (coefficient_of i) → low ≡ low_in (bounds_on t) i → high ≡ high_in (bounds_on t) i → greatest_times c low high ≤ℤ (least_times c low high +ℤ pos slack) → Rests side (bounds_on t) slack i
rests_is t side i slack c low high e f g h =
    subst (λ (k : ℤ). greatest_times (signed_by side (coefficient_of i)) (low_in (bounds_on t) i) k ≤ℤ (least_times (signed_by side (coefficient_of i)) (low_in (bounds_on t) i) k +ℤ pos slack)) g
    (subst (λ (k : ℤ). greatest_times (signed_by side (coefficient_of i)) k high ≤ℤ (least_times (signed_by side (coefficient_of i)) k high +ℤ pos slack)) f
    (subst (λ (k : ℤ). greatest_times k low high ≤ℤ (least_times k low high +ℤ pos slack)) e h))

-- in a list whose literals are this one or true, this one is if it follows and is not true
pub in_list : (t : Assignment) (instead : Lit) (ls : List Lit) → is_true_on t instead ≡ false → list_any (λ m. implies_lit m instead) ls ≡ true → AllByRecursion (IsOrTrue t instead) ls → Contains ls instead
in_list t instead [] never f a = absurd (let no : false ≡ true = f in cc)
in_list t instead (l ∷ ls) never f a = cases (implies_lit l instead) refl f a.0 (λ g. in_list t instead ls never g a.1)
  where
    head : Contains (l ∷ ls) l
    head = (0, omega arith, refl)

    tail : Contains ls instead → Contains (l ∷ ls) instead
    tail c = (suc c.0, (let lt = c.1 in omega (arith, lt)), c.2)

    cases : (b : Bool) → implies_lit l instead ≡ b → (b || list_any (λ m. implies_lit m instead) ls) ≡ true → IsOrTrue t instead l → (list_any (λ m. implies_lit m instead) ls ≡ true → Contains ls instead) → Contains (l ∷ ls) instead
    cases true e f (inl same) g = subst (λ (m : Lit). Contains (l ∷ ls) m) same head
    cases true e f (inr on) g = absurd (let now : is_true_on t instead ≡ true = implied_trans t.shape.ends (lits_of t.entries) l instead e on in let no : true ≡ false = sym now ∙ never in cc)
    cases false e f o g = tail (g f)

pub others_true : (t : Assignment) (instead : Lit) (ls : List Lit) → AllByRecursion (IsOrTrue t instead) ls → OthersTrueOn t ls instead
others_true t instead ls a l c = All-contains (IsOrTrue t instead) ls l (All-from_recursion (IsOrTrue t instead) ls a) c

not_ends : (t : Assignment) (l : Lit) → is_true_on t l ≡ false → ends_imply t.shape.ends l ≡ false
not_ends t l h = cases (ends_imply t.shape.ends l) (list_any (λ m. implies_lit m l) (lits_of t.entries)) h
  where
    cases : (a b : Bool) → (a || b) ≡ false → a ≡ false
    cases true b h = h
    cases false b h = refl

by_list : (t : Assignment) (l : Lit) (ls : List Lit) → is_true_on t l ≡ false → implied t.shape.ends ls l ≡ true → list_any (λ m. implies_lit m l) ls ≡ true
by_list t l ls never h = cases (ends_imply t.shape.ends l) (list_any (λ m. implies_lit m l) ls) (not_ends t l never) h
  where
    cases : (a b : Bool) → a ≡ false → (a || b) ≡ true → b ≡ true
    cases true b e h = let no : true ≡ false = e in cc
    cases false b e h = h

pub forces_by : (t : Assignment) (r : Reason) (l : Lit) → is_true_on t (complement_of l) ≡ false → implied t.shape.ends r.nogood (complement_of l) ≡ true → AllByRecursion (IsOrTrue t (complement_of l)) r.nogood → Forces t r.nogood l
forces_by t r l never has each = record {
  opposite = in_list t (complement_of l) r.nogood never (by_list t (complement_of l) r.nogood never has) each;
  others = others_true t (complement_of l) r.nogood each;
}

pub grows_placed : (P : Assignment → Entry → Type 0) (t new : Assignment) (l : Lit) (r : Reason) (p : Placed) → Names t.shape l → Places t l (Shown r) p new → truth_on t l ≡ None → P t (entry_of t l (Shown r)) → Grows P t new
grows_placed P t new l r Already n h e s = absurd (let no : Some true ≡ None = sym h.0 ∙ e in cc)
grows_placed P t new l r Clash n h e s = absurd (let no : Some false ≡ None = sym h.0 ∙ e in cc)
grows_placed P t new l r Done n h e s = grows_set P t new l (Shown r) n h s

pub placed_longer : (t new : Assignment) (l : Lit) (r : Reason) (p : Placed) → Places t l (Shown r) p new → truth_on t l ≡ None → length t.entries < length new.entries
placed_longer t new l r Already h e = absurd (let no : Some true ≡ None = sym h.0 ∙ e in cc)
placed_longer t new l r Clash h e = absurd (let no : Some false ≡ None = sym h.0 ∙ e in cc)
placed_longer t new l r Done h e = omega (arith, ap (λ (u : Assignment). length u.entries) h.1, length-append t.entries (entry_of t l (Shown r) ∷ []))

pub grows_says : (P : Assignment → Entry → Type 0) (a b : Assignment) → Grows P a b → Says a.shape.ends (lits_of a.entries) (lits_of b.entries)
grows_says P a b g l h = subst (λ (s : Shape). implied s.ends (lits_of b.entries) l ≡ true) (grows_shape P a b g) (grows_true P a b l g h)

pub sum_grows : (P : Assignment → Entry → Type 0) (side : Bool) (a b : Assignment) (items : List Item) → Grows P a b → side_sum side (bounds_on a) items ≤ℤ side_sum side (bounds_on b) items
sum_grows P side a b items g =
    subst (λ (s : Shape). side_sum side (bounds_on a) items ≤ℤ side_sum side (bounds_named s.ends (lits_of b.entries)) items) (sym (grows_shape P a b g))
    (sum_says side a.shape.ends (lits_of a.entries) (lits_of b.entries) items (grows_says P a b g))

pub slack_grows : (P : Assignment → Entry → Type 0) (side : Bool) (a b : Assignment) (items : List Item) (limit : ℤ) (slack : ℕ) → Grows P a b → limit ≤ℤ (side_sum side (bounds_on a) items +ℤ pos slack) → limit ≤ℤ (side_sum side (bounds_on b) items +ℤ pos slack)
slack_grows P side a b items limit slack g h = more (side_sum side (bounds_on a) items) (side_sum side (bounds_on b) items) (sum_grows P side a b items g) h
  where
    more : (x y : ℤ) → x ≤ℤ y → limit ≤ℤ (x +ℤ pos slack) → limit ≤ℤ (y +ℤ pos slack)
    more x y e h = omega (arith, ints, e, h)

pub on_grows : (P : Assignment → Entry → Type 0) (a b : Assignment) (l : Lit) → Grows P a b → truth_on a l ≡ Some true → truth_on b l ≡ Some true
on_grows P a b l g h = truth-true b l (grows_true P a b l g (true-truth a l h))

pub placed_grew : (t new : Assignment) (l : Lit) (r : Reason) (p : Placed) → Places t l (Shown r) p new → truth_on t l ≡ None → new ≡ t → ⊥
placed_grew t new l r p h e same = let more = placed_longer t new l r p h e in let one : length new.entries ≡ length t.entries = ap (λ (u : Assignment). length u.entries) same in omega (arith, more, one)

pub rests_from : {X : Type 0} (t : Assignment) (side : Bool) (i : Item) (slack : ℕ) (c low high : ℤ) (r : Option X) → c ≡ signed_by side (coefficient_of i) → low ≡ low_in (bounds_on t) i → high ≡ high_in (bounds_on t) i → IfNone r (greatest_times c low high ≤ℤ (least_times c low high +ℤ pos slack)) → IfNone r (Rests side (bounds_on t) slack i)
rests_from t side i slack c low high None e f g h = rests_is t side i slack c low high e f g h
rests_from t side i slack c low high (Some x) e f g h = tt

pub need_from : (t : Assignment) (side : Bool) (i : Item) (slack : ℕ) (c low high : ℤ) (r : Option Needed) → IsAssignment t → IsTrue (is_item_of t.shape i) → c ≡ signed_by side (coefficient_of i) → low ≡ low_in (bounds_on t) i → high ≡ high_in (bounds_on t) i → IfSome r (λ n. Narrows i c (slack + n.spare) low high n.lit) → IfSome r (λ n. IsNeeded t side i (slack + n.spare) n.lit)
need_from t side i slack c low high None h n e f g w = tt
need_from t side i slack c low high (Some x) h n e f g w = narrow_is t side i (slack + x.spare) x.lit c low high h n e f g w
