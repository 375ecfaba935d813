-- Values lie within the bounds that true literals name, and sums within the sums of bounds.
use Rattle.std.proofs.Common.{◌≡◌, ℕ, Bool, true, false, not, cond, if◌then◌else◌, ◌==◌, ◌⊎◌, inl, inr, List, [], ◌∷◌, fold, sym, subst, true≢false, eqb-true, ℤ, pos, ◌+ℤ◌, ◌*ℤ◌, ◌≤ℤ◌, int_le, arith}
use Rattle.std.specs.Int.{int_max, int_min}
use Rattle.std.specs.List.{AllByRecursion}
use Rattle.std.proofs.lemmas.Int.{ints}
use Rattle.symbols.specs.declared.ends.Ends.{Ends}
use Rattle.literals.specs.declared.lit.Lit.{Lit}
use Rattle.literals.specs.declared.lit.Lit.TheVariants.{Constraint, AtMost, AtLeast}
use Rattle.literals.specs.Lits.{same_lit}
use Rattle.literals.specs.Nogoods.{has_lit}
use Rattle.literals.specs.Truths.{Truths, lit_true, all_true}
use Rattle.literals.proofs.LitLaws.{same_lit-equal}
use Rattle.ground_model.specs.declared.linear.Linear.{Linear}
use Rattle.ground_model.specs.Answers.{IsNumbered, IsWithin}
use Rattle.ground_model.specs.Sizes.{IsSoundPair}
use Rattle.ground_model.specs.Truth.{pairs_value, value_of}
use Rattle.ground_model.specs.View.{linear_of}
use Rattle.ground_model.proofs.Bools.{and_elim, bool_cases}
use Rattle.ground_model.proofs.MemberLemmas.{member_any, all_member}
use Rattle.linear_normal.specs.declared.constraint.Item.{Item}
use Rattle.linear_normal.specs.declared.constraint.Item.TheVariants.{Value, Truth}
use Rattle.linear_normal.specs.Bounds.{Bounds, raised, lowered, counted, discounted, bounds_named, least_times, greatest_times, least_item, greatest_item, least_sum, greatest_sum, least_pairs, greatest_pairs, least_value, greatest_value}
use Rattle.linear_normal.specs.Truth.{item_value, items_value}
use Rattle.linear_normal.proofs.Times.{least_below, greatest_above}

-- an item counts one of so many variables, or a constraint
abbrev pub IsItemOf : ℕ → Item → Type 0
IsItemOf variables (Value x c) = IsNumbered variables x
IsItemOf variables (Truth n c) = Unit {0}

-- a listed literal is true where all are
pub listed_true : (t : Truths) (lits : List Lit) (l : Lit) → has_lit lits l ≡ true → all_true t lits ≡ true → lit_true t l ≡ true
listed_true t lits l h e =
    let r = member_any (λ x. same_lit x l) lits h in
    subst (λ (m : Lit). lit_true t m ≡ true) (same_lit-equal r.0 l r.2) (all_member (lit_true t) lits r.0 e r.1)

max_below : (a b v : ℤ) → a ≤ℤ v → int_le b v ≡ true → int_max a b ≤ℤ v
max_below a b v h e = grind (arith, ints)

min_above : (a b v : ℤ) → v ≤ℤ a → int_le v b ≡ true → v ≤ℤ int_min a b
min_above a b v h e = grind (arith, ints)

module _ (t : Truths) where
  raised_below : (x : ℕ) (bound : ℤ) (l : Lit) → lit_true t l ≡ true → bound ≤ℤ t.value x → raised x bound l ≤ℤ t.value x
  raised_below x bound (AtLeast y k) e h = go (bool_cases (y == x))
    where
      go : ((y == x) ≡ true) ⊎ ((y == x) ≡ false) → cond (y == x) (int_max bound k) bound ≤ℤ t.value x
      go (inl s) =
          subst (λ b. cond b (int_max bound k) bound ≤ℤ t.value x) (sym s)
          (max_below bound k (t.value x) h (subst (λ z. int_le k (t.value z) ≡ true) (eqb-true y x s) e))
      go (inr s) = subst (λ b. cond b (int_max bound k) bound ≤ℤ t.value x) (sym s) h
  raised_below x bound _ e h = h

  lowered_above : (x : ℕ) (bound : ℤ) (l : Lit) → lit_true t l ≡ true → t.value x ≤ℤ bound → t.value x ≤ℤ lowered x bound l
  lowered_above x bound (AtMost y k) e h = go (bool_cases (y == x))
    where
      go : ((y == x) ≡ true) ⊎ ((y == x) ≡ false) → t.value x ≤ℤ cond (y == x) (int_min bound k) bound
      go (inl s) =
          subst (λ b. t.value x ≤ℤ cond b (int_min bound k) bound) (sym s)
          (min_above bound k (t.value x) h (subst (λ z. int_le (t.value z) k ≡ true) (eqb-true y x s) e))
      go (inr s) = subst (λ b. t.value x ≤ℤ cond b (int_min bound k) bound) (sym s) h
  lowered_above x bound _ e h = h

  abbrev pub count_of : ℕ → ℤ
  count_of c = (if t.constraint c then pos 1 else pos 0)

  counted_below : (c : ℕ) (count : ℤ) (l : Lit) → lit_true t l ≡ true → count ≤ℤ count_of c → counted c count l ≤ℤ count_of c
  counted_below c count (Constraint d true) e h = go (bool_cases (d == c))
    where
      one : (b : Bool) → b ≡ true → pos 1 ≤ℤ cond b (pos 1) (pos 0)
      one true f = omega (arith, ints)
      one false f = absurd (true≢false (sym f))

      go : ((d == c) ≡ true) ⊎ ((d == c) ≡ false) → cond (d == c) (pos 1) count ≤ℤ count_of c
      go (inl s) =
          subst (λ b. cond b (pos 1) count ≤ℤ count_of c) (sym s) (one (t.constraint c) (subst (λ z. t.constraint z ≡ true) (eqb-true d c s) e))
      go (inr s) = subst (λ b. cond b (pos 1) count ≤ℤ count_of c) (sym s) h
  counted_below c count _ e h = h

  discounted_above : (c : ℕ) (count : ℤ) (l : Lit) → lit_true t l ≡ true → count_of c ≤ℤ count → count_of c ≤ℤ discounted c count l
  discounted_above c count (Constraint d false) e h = go (bool_cases (d == c))
    where
      none : (b : Bool) → not b ≡ true → cond b (pos 1) (pos 0) ≤ℤ pos 0
      none true f = absurd (true≢false (sym f))
      none false f = omega (arith, ints)

      go : ((d == c) ≡ true) ⊎ ((d == c) ≡ false) → count_of c ≤ℤ cond (d == c) (pos 0) count
      go (inl s) =
          subst (λ b. count_of c ≤ℤ cond b (pos 0) count) (sym s) (none (t.constraint c) (subst (λ z. not (t.constraint z) ≡ true) (eqb-true d c s) e))
      go (inr s) = subst (λ b. count_of c ≤ℤ cond b (pos 0) count) (sym s) h
  discounted_above c count _ e h = h

  fold_below : (f : ℤ → Lit → ℤ) (v start : ℤ) → ((b : ℤ) (l : Lit) → lit_true t l ≡ true → b ≤ℤ v → f b l ≤ℤ v) → (lits : List Lit) → all_true t lits ≡ true → start ≤ℤ v → fold f start lits ≤ℤ v
  fold_below f v start h [] e s = s
  fold_below f v start h (l ∷ lits) e s =
      let p = and_elim (lit_true t l) (all_true t lits) e in fold_below f v (f start l) h lits p.1 (h start l p.0 s)

  fold_above : (f : ℤ → Lit → ℤ) (v start : ℤ) → ((b : ℤ) (l : Lit) → lit_true t l ≡ true → v ≤ℤ b → v ≤ℤ f b l) → (lits : List Lit) → all_true t lits ≡ true → v ≤ℤ start → v ≤ℤ fold f start lits
  fold_above f v start h [] e s = s
  fold_above f v start h (l ∷ lits) e s =
      let p = and_elim (lit_true t l) (all_true t lits) e in fold_above f v (f start l) h lits p.1 (h start l p.0 s)

  module _ (ends : Ends) (lits : List Lit) (all : all_true t lits ≡ true) (variables : ℕ) (within : (x : ℕ) → IsNumbered variables x → IsWithin ends (t.value x)) where
    abbrev bounds : Bounds
    bounds = bounds_named ends lits

    pub low_below : (x : ℕ) → IsNumbered variables x → bounds.low x ≤ℤ t.value x
    low_below x is = fold_below (raised x) (t.value x) ends.min (raised_below x) lits all (within x is).0

    pub high_above : (x : ℕ) → IsNumbered variables x → t.value x ≤ℤ bounds.high x
    high_above x is = fold_above (lowered x) (t.value x) ends.max (lowered_above x) lits all (within x is).1

    least_below_count : (c : ℕ) → bounds.least c ≤ℤ count_of c
    least_below_count c = fold_below (counted c) (count_of c) (pos 0) (counted_below c) lits all (zero_below (t.constraint c))
      where
        zero_below : (b : Bool) → pos 0 ≤ℤ cond b (pos 1) (pos 0)
        zero_below true = omega (arith, ints)
        zero_below false = omega (arith, ints)

    greatest_above_count : (c : ℕ) → count_of c ≤ℤ bounds.greatest c
    greatest_above_count c = fold_above (discounted c) (count_of c) (pos 1) (discounted_above c) lits all (one_above (t.constraint c))
      where
        one_above : (b : Bool) → cond b (pos 1) (pos 0) ≤ℤ pos 1
        one_above true = omega (arith, ints)
        one_above false = omega (arith, ints)

    least_item_below : (item : Item) → IsItemOf variables item → least_item bounds item ≤ℤ item_value t item
    least_item_below (Value x c) is = least_below c (bounds.low x) (t.value x) (bounds.high x) (low_below x is) (high_above x is)
    least_item_below (Truth n c) is = least_below c (bounds.least n) (count_of n) (bounds.greatest n) (least_below_count n) (greatest_above_count n)

    greatest_item_above : (item : Item) → IsItemOf variables item → item_value t item ≤ℤ greatest_item bounds item
    greatest_item_above (Value x c) is = greatest_above c (bounds.low x) (t.value x) (bounds.high x) (low_below x is) (high_above x is)
    greatest_item_above (Truth n c) is = greatest_above c (bounds.least n) (count_of n) (bounds.greatest n) (least_below_count n) (greatest_above_count n)

    add_below : (a b c d : ℤ) → a ≤ℤ c → b ≤ℤ d → (a +ℤ b) ≤ℤ (c +ℤ d)
    add_below a b c d h k = omega (arith, ints, h, k)

    pub least_sum_below : (items : List Item) → AllByRecursion (IsItemOf variables) items → least_sum bounds items ≤ℤ items_value t items
    least_sum_below [] is = omega (arith, ints)
    least_sum_below (item ∷ items) is =
        add_below (least_item bounds item) (least_sum bounds items) (item_value t item) (items_value t items) (least_item_below item is.0) (least_sum_below items is.1)

    pub greatest_sum_above : (items : List Item) → AllByRecursion (IsItemOf variables) items → items_value t items ≤ℤ greatest_sum bounds items
    greatest_sum_above [] is = omega (arith, ints)
    greatest_sum_above (item ∷ items) is =
        add_below (item_value t item) (items_value t items) (greatest_item bounds item) (greatest_sum bounds items) (greatest_item_above item is.0) (greatest_sum_above items is.1)

    numbered_pair : (pair : ℕ × ℤ) → IsSoundPair variables pair → IsNumbered variables pair.0
    numbered_pair pair is = record { above = is.above; known = is.known }

    least_pairs_below : (pairs : List (ℕ × ℤ)) → AllByRecursion (λ pair. IsNumbered variables pair.0) pairs → least_pairs bounds pairs ≤ℤ pairs_value t.value pairs
    least_pairs_below [] is = omega (arith, ints)
    least_pairs_below (pair ∷ pairs) is =
        add_below (least_times pair.1 (bounds.low pair.0) (bounds.high pair.0)) (least_pairs bounds pairs) (pair.1 *ℤ t.value pair.0) (pairs_value t.value pairs)
        (least_below pair.1 (bounds.low pair.0) (t.value pair.0) (bounds.high pair.0) (low_below pair.0 is.0) (high_above pair.0 is.0)) (least_pairs_below pairs is.1)

    greatest_pairs_above : (pairs : List (ℕ × ℤ)) → AllByRecursion (λ pair. IsNumbered variables pair.0) pairs → pairs_value t.value pairs ≤ℤ greatest_pairs bounds pairs
    greatest_pairs_above [] is = omega (arith, ints)
    greatest_pairs_above (pair ∷ pairs) is =
        add_below (pair.1 *ℤ t.value pair.0) (pairs_value t.value pairs) (greatest_times pair.1 (bounds.low pair.0) (bounds.high pair.0)) (greatest_pairs bounds pairs)
        (greatest_above pair.1 (bounds.low pair.0) (t.value pair.0) (bounds.high pair.0) (low_below pair.0 is.0) (high_above pair.0 is.0)) (greatest_pairs_above pairs is.1)

    pub least_value_below : (linear : Linear) → AllByRecursion (λ pair. IsNumbered variables pair.0) linear.pairs → least_value bounds linear ≤ℤ value_of t.value (linear_of linear)
    least_value_below linear is = one (least_pairs bounds linear.pairs) (pairs_value t.value linear.pairs) linear.constant (least_pairs_below linear.pairs is)
      where
        one : (a b c : ℤ) → a ≤ℤ b → (a +ℤ c) ≤ℤ (b +ℤ c)
        one a b c h = omega (arith, ints, h)

    pub greatest_value_above : (linear : Linear) → AllByRecursion (λ pair. IsNumbered variables pair.0) linear.pairs → value_of t.value (linear_of linear) ≤ℤ greatest_value bounds linear
    greatest_value_above linear is = one (pairs_value t.value linear.pairs) (greatest_pairs bounds linear.pairs) linear.constant (greatest_pairs_above linear.pairs is)
      where
        one : (a b c : ℤ) → a ≤ℤ b → (a +ℤ c) ≤ℤ (b +ℤ c)
        one a b c h = omega (arith, ints, h)
