-- The literals on which the least value of an item stands.
use Rattle.std.proofs.Common.{◌≡◌, ℕ, ◌+◌, ◌-◌, ◌^◌, ◌<◌, ◌≤◌, Bool, true, IsTrue, refl, sym, ◌∙◌, ap, subst, arith, List, [], ◌∷◌, ◌++◌, ℤ, pos, neg_ℤ, ◌+ℤ◌, ◌≤ℤ◌, ◌<ℤ◌, inl, inr}
use Rattle.std.specs.Prelude.{int_le}
use Rattle.std.specs.List.{AllByRecursion}
use Rattle.std.proofs.lemmas.Bool.Decides.{nat_tests}
use Rattle.std.proofs.lemmas.Int.{ints}
use Rattle.std.proofs.lemmas.List.{append-nil}
use Rattle.symbols.specs.declared.ends.Ends.{Ends}
use Rattle.literals.specs.declared.lit.Lit.{Lit}
use Rattle.linear_normal.specs.declared.constraint.Item.{Item}
use Rattle.linear_normal.specs.declared.constraint.Item.TheVariants.{Value, Truth}
use Rattle.linear_normal.specs.Bounds.{bounds_named}
use Rattle.linear_normal.specs.Steps.{is_one_of}
use Rattle.trail.specs.declared.shape.Shape.{Shape}
use Rattle.trail.specs.Assignment.{Assignment, IsAssignment, Names, lits_of}
use Rattle.trail_bounds.specs.OnTrail.{is_item_of, bounds_on}
use Rattle.trail_bounds.specs.Items.{coefficient_of, low_in, high_in, low_end, high_end, at_least, at_most}
use Rattle.trail_bounds.specs.inner.Ranges.{InRange}
use Rattle.trail_bounds.specs.Sides.{signed_by, side_least}
use Rattle.trail_bounds.specs.inner.Steps.{Costs, IsBacking, IsBacked}
use Rattle.trail_bounds.specs.Backing.{BacksOne}
use Rattle.trail_bounds.proofs.Times.{weaker_up, weaker_down}
use Rattle.trail_bounds.proofs.Ranges.{SaysLeast, SaysMost, implied-least, implied-most, low_from_end, high_from_end, range_is}

le_true : (a b : ℤ) → int_le a b ≡ true → a ≤ℤ b
le_true a b h = grind (arith, nat_tests, ints)

-- a bound of an item's range that is not the end's is said by a literal
says_least : (ends : Ends) (i : Item) (k : ℤ) → InRange i k → (k ≡ low_end ends i → ⊥) → SaysLeast i k
says_least ends (Value x c) k r n = refl
says_least ends (Truth m c) k r n = bit (k) r.0 r.1 n
  where
    bit : (k : ℤ) → pos 0 ≤ℤ k → k ≤ℤ pos 1 → (k ≡ pos 0 → ⊥) → k ≡ pos 1
    bit k a b n = grind (arith, ints)

says_most : (ends : Ends) (i : Item) (k : ℤ) → InRange i k → (k ≡ high_end ends i → ⊥) → SaysMost i k
says_most ends (Value x c) k r n = refl
says_most ends (Truth m c) k r n = bit (k) r.0 r.1 n
  where
    bit : (k : ℤ) → pos 0 ≤ℤ k → k ≤ℤ pos 1 → (k ≡ pos 1 → ⊥) → k ≡ pos 0
    bit k a b n = grind (arith, ints)

one_of : (last n : ℕ) → IsTrue (is_one_of last n) → (1 ≤ n) × (n ≤ last)
one_of last n h = (grind (arith, nat_tests), grind (arith, nat_tests))

-- what an item counts at least, or at most, is a literal of the shape
pub least_names : (s : Shape) (i : Item) (k : ℤ) → IsTrue (is_item_of s i) → InRange i k → Names s (at_least i k)
least_names s (Value x c) k h r =
    let o = one_of s.variables x h in
    record { literal = (o.0, r.0, let b = r.1 in omega (arith, ints, b)); within = o.1 }
least_names s (Truth n c) k h r = let o = one_of s.constraints n h in record { literal = o.0; within = o.1 }

pub most_names : (s : Shape) (i : Item) (k : ℤ) → IsTrue (is_item_of s i) → InRange i k → Names s (at_most i k)
most_names s (Value x c) k h r =
    let o = one_of s.variables x h in
    record { literal = (o.0, (let a = r.0 in omega (arith, ints, a)), r.1); within = o.1 }
most_names s (Truth n c) k h r = let o = one_of s.constraints n h in record { literal = o.0; within = o.1 }

-- ONE ITEM

above_end : (ends : Ends) (i : Item) (k : ℤ) → low_end ends i <ℤ k → k ≡ low_end ends i → ⊥
above_end ends i k h e = go (low_end ends i) k h e
  where
    go : (m k : ℤ) → m <ℤ k → k ≡ m → ⊥
    go m k h e = omega (arith, ints, h, e)

below_end : (ends : Ends) (i : Item) (k : ℤ) → k <ℤ high_end ends i → k ≡ high_end ends i → ⊥
below_end ends i k h e = go (high_end ends i) k h e
  where
    go : (m k : ℤ) → k <ℤ m → k ≡ m → ⊥
    go m k h e = omega (arith, ints, h, e)

-- a number between the end and a bound on the trail is one that the item may count
from_low : (t : Assignment) (i : Item) (k : ℤ) → IsAssignment t → low_end t.shape.ends i <ℤ k → k ≤ℤ low_in (bounds_on t) i → InRange i k
from_low t (Value x c) k h a b = go t.shape.ends.min ((bounds_on t).low x) t.shape.ends.low (range_is t (Value x c) h).0.1 a b
  where
    go : (m l : ℤ) → neg_ℤ (pos (2 ^ 30 - 1)) ≤ℤ m → l ≤ℤ pos (2 ^ 30 - 1) → m <ℤ k → k ≤ℤ l → (neg_ℤ (pos (2 ^ 30 - 1)) ≤ℤ k) × (k ≤ℤ pos (2 ^ 30 - 1))
    go m l e f a b = (omega (arith, ints, e, a), omega (arith, ints, f, b))
from_low t (Truth n c) k h a b = go ((bounds_on t).least n) (range_is t (Truth n c) h).0.1 a b
  where
    go : (l : ℤ) → l ≤ℤ pos 1 → pos 0 <ℤ k → k ≤ℤ l → (pos 0 ≤ℤ k) × (k ≤ℤ pos 1)
    go l f a b = (omega (arith, ints, a), omega (arith, ints, f, b))

from_high : (t : Assignment) (i : Item) (k : ℤ) → IsAssignment t → high_in (bounds_on t) i ≤ℤ k → k <ℤ high_end t.shape.ends i → InRange i k
from_high t (Value x c) k h a b = go t.shape.ends.max ((bounds_on t).high x) t.shape.ends.high (range_is t (Value x c) h).1.0 a b
  where
    go : (m l : ℤ) → m ≤ℤ pos (2 ^ 30 - 1) → neg_ℤ (pos (2 ^ 30 - 1)) ≤ℤ l → l ≤ℤ k → k <ℤ m → (neg_ℤ (pos (2 ^ 30 - 1)) ≤ℤ k) × (k ≤ℤ pos (2 ^ 30 - 1))
    go m l e f a b = (omega (arith, ints, f, a), omega (arith, ints, e, b))
from_high t (Truth n c) k h a b = go ((bounds_on t).greatest n) (range_is t (Truth n c) h).1.0 a b
  where
    go : (l : ℤ) → pos 0 ≤ℤ l → l ≤ℤ k → k <ℤ pos 1 → (pos 0 ≤ℤ k) × (k ≤ℤ pos 1)
    go l f a b = (omega (arith, ints, f, a), omega (arith, ints, b))

le_is : (a b : ℤ) → a ≤ℤ b → int_le a b ≡ true
le_is a b h = grind (arith, nat_tests, ints)

back_least : (t : Assignment) (side : Bool) (i : Item) (old new : List Lit) (k : ℤ) (slack left : ℕ) → IsAssignment t → IsTrue (is_item_of t.shape i) → pos 0 ≤ℤ signed_by side (coefficient_of i) → low_end t.shape.ends i <ℤ k → k ≤ℤ low_in (bounds_on t) i → Costs (signed_by side (coefficient_of i)) (low_in (bounds_on t) i) k slack left → new ≡ old ++ at_least i k ∷ [] → BacksOne t side i slack left old new
back_least t side i old new k slack left h n s above below costs add =
    let r : InRange i k = from_low t i k h above below in
    let says : SaysLeast i k = says_least t.shape.ends i k r (above_end t.shape.ends i k above) in
    record {
      more = at_least i k ∷ [];
      added = add;
      names = (least_names t.shape i k n r, tt);
      are_true = (implied-least t.shape.ends (lits_of t.entries) i k says ∙ le_is k (low_in (bounds_on t) i) below, tt);
      backs = λ lits f. weaker_up (signed_by side (coefficient_of i)) (low_in (bounds_on t) i) (high_in (bounds_on t) i) k (low_in (bounds_named t.shape.ends lits) i) (high_in (bounds_named t.shape.ends lits) i) slack left s
          (le_true k (low_in (bounds_named t.shape.ends lits) i) (sym (implied-least t.shape.ends lits i k says) ∙ f.0)) costs;
    }

back_most : (t : Assignment) (side : Bool) (i : Item) (old new : List Lit) (k : ℤ) (slack left : ℕ) → IsAssignment t → IsTrue (is_item_of t.shape i) → signed_by side (coefficient_of i) <ℤ pos 0 → high_in (bounds_on t) i ≤ℤ k → k <ℤ high_end t.shape.ends i → Costs (signed_by side (coefficient_of i)) (high_in (bounds_on t) i) k slack left → new ≡ old ++ at_most i k ∷ [] → BacksOne t side i slack left old new
back_most t side i old new k slack left h n s above below costs add =
    let r : InRange i k = from_high t i k h above below in
    let says : SaysMost i k = says_most t.shape.ends i k r (below_end t.shape.ends i k below) in
    record {
      more = at_most i k ∷ [];
      added = add;
      names = (most_names t.shape i k n r, tt);
      are_true = (implied-most t.shape.ends (lits_of t.entries) i k says ∙ le_is (high_in (bounds_on t) i) k above, tt);
      backs = λ lits f. weaker_down (signed_by side (coefficient_of i)) (low_in (bounds_on t) i) (high_in (bounds_on t) i) k (low_in (bounds_named t.shape.ends lits) i) (high_in (bounds_named t.shape.ends lits) i) slack left s
          (le_true (high_in (bounds_named t.shape.ends lits) i) k (sym (implied-most t.shape.ends lits i k says) ∙ f.0)) costs;
    }

some_here : (t : Assignment) (side : Bool) (i : Item) (old new : List Lit) (slack left : ℕ) (l : Lit) → IsAssignment t → IsTrue (is_item_of t.shape i) → IsBacking i (signed_by side (coefficient_of i)) (low_in (bounds_on t) i) (high_in (bounds_on t) i) (low_end t.shape.ends i) (high_end t.shape.ends i) slack left l → new ≡ old ++ l ∷ [] → BacksOne t side i slack left old new
some_here t side i old new slack left l h n (inl b) add = back_least t side i old new b.bound slack left h n b.sign b.above b.below b.costs (add ∙ ap (λ (m : Lit). old ++ m ∷ []) b.is)
some_here t side i old new slack left l h n (inr b) add = back_most t side i old new b.bound slack left h n b.sign b.above b.below b.costs (add ∙ ap (λ (m : Lit). old ++ m ∷ []) b.is)

pub back_some : (t : Assignment) (side : Bool) (i : Item) (old new : List Lit) (c from to min max : ℤ) (slack left : ℕ) (l : Lit) → IsAssignment t → IsTrue (is_item_of t.shape i) → c ≡ signed_by side (coefficient_of i) → from ≡ low_in (bounds_on t) i → to ≡ high_in (bounds_on t) i → min ≡ low_end t.shape.ends i → max ≡ high_end t.shape.ends i → IsBacking i c from to min max slack left l → new ≡ old ++ l ∷ [] → BacksOne t side i slack left old new
back_some t side i old new c from to min max slack left l h n e a b p q g add = some_here t side i old new slack left l h n (move c from to min max e a b p q g) add
  where
    move : (c from to min max : ℤ) → c ≡ signed_by side (coefficient_of i) → from ≡ low_in (bounds_on t) i → to ≡ high_in (bounds_on t) i → min ≡ low_end t.shape.ends i → max ≡ high_end t.shape.ends i → IsBacking i c from to min max slack left l → IsBacking i (signed_by side (coefficient_of i)) (low_in (bounds_on t) i) (high_in (bounds_on t) i) (low_end t.shape.ends i) (high_end t.shape.ends i) slack left l
    move c from to min max e a b p q g =
        subst (λ (k : ℤ). IsBacking i (signed_by side (coefficient_of i)) (low_in (bounds_on t) i) (high_in (bounds_on t) i) (low_end t.shape.ends i) k slack left l) q
        (subst (λ (k : ℤ). IsBacking i (signed_by side (coefficient_of i)) (low_in (bounds_on t) i) (high_in (bounds_on t) i) k max slack left l) p
        (subst (λ (k : ℤ). IsBacking i (signed_by side (coefficient_of i)) (low_in (bounds_on t) i) k min max slack left l) b
        (subst (λ (k : ℤ). IsBacking i (signed_by side (coefficient_of i)) k to min max slack left l) a
        (subst (λ (k : ℤ). IsBacking i k from to min max slack left l) e g))))

none_more : (t : Assignment) (side : Bool) (i : Item) (old : List Lit) (slack left : ℕ) → ((lits : List Lit) → (side_least side (bounds_on t) i +ℤ pos left) ≤ℤ (side_least side (bounds_named t.shape.ends lits) i +ℤ pos slack)) → BacksOne t side i slack left old old
none_more t side i old slack left h = record { more = []; added = sym (append-nil old); names = tt; are_true = tt; backs = λ lits f. h lits }

none_here : (t : Assignment) (side : Bool) (i : Item) (old : List Lit) (slack left : ℕ) → IsBacked (signed_by side (coefficient_of i)) (low_in (bounds_on t) i) (high_in (bounds_on t) i) (low_end t.shape.ends i) (high_end t.shape.ends i) slack left → BacksOne t side i slack left old old
none_here t side i old slack left (inl g) =
    none_more t side i old slack left (λ lits. weaker_up (signed_by side (coefficient_of i)) (low_in (bounds_on t) i) (high_in (bounds_on t) i) (low_end t.shape.ends i) (low_in (bounds_named t.shape.ends lits) i) (high_in (bounds_named t.shape.ends lits) i) slack left g.0 (low_from_end t.shape.ends lits i) g.1)
none_here t side i old slack left (inr g) =
    none_more t side i old slack left (λ lits. weaker_down (signed_by side (coefficient_of i)) (low_in (bounds_on t) i) (high_in (bounds_on t) i) (high_end t.shape.ends i) (low_in (bounds_named t.shape.ends lits) i) (high_in (bounds_named t.shape.ends lits) i) slack left g.0 (high_from_end t.shape.ends lits i) g.1)

pub back_none : (t : Assignment) (side : Bool) (i : Item) (old : List Lit) (c from to min max : ℤ) (slack left : ℕ) → c ≡ signed_by side (coefficient_of i) → from ≡ low_in (bounds_on t) i → to ≡ high_in (bounds_on t) i → min ≡ low_end t.shape.ends i → max ≡ high_end t.shape.ends i → IsBacked c from to min max slack left → BacksOne t side i slack left old old
back_none t side i old c from to min max slack left e a b p q g = none_here t side i old slack left (move c from to min max e a b p q g)
  where
    move : (c from to min max : ℤ) → c ≡ signed_by side (coefficient_of i) → from ≡ low_in (bounds_on t) i → to ≡ high_in (bounds_on t) i → min ≡ low_end t.shape.ends i → max ≡ high_end t.shape.ends i → IsBacked c from to min max slack left → IsBacked (signed_by side (coefficient_of i)) (low_in (bounds_on t) i) (high_in (bounds_on t) i) (low_end t.shape.ends i) (high_end t.shape.ends i) slack left
    move c from to min max e a b p q g =
        subst (λ (k : ℤ). IsBacked (signed_by side (coefficient_of i)) (low_in (bounds_on t) i) (high_in (bounds_on t) i) (low_end t.shape.ends i) k slack left) q
        (subst (λ (k : ℤ). IsBacked (signed_by side (coefficient_of i)) (low_in (bounds_on t) i) (high_in (bounds_on t) i) k max slack left) p
        (subst (λ (k : ℤ). IsBacked (signed_by side (coefficient_of i)) (low_in (bounds_on t) i) k min max slack left) b
        (subst (λ (k : ℤ). IsBacked (signed_by side (coefficient_of i)) k to min max slack left) a
        (subst (λ (k : ℤ). IsBacked k from to min max slack left) e g))))

-- the ends bound the range
pub ends_low : (t : Assignment) (i : Item) (from min : ℤ) → from ≡ low_in (bounds_on t) i → min ≡ low_end t.shape.ends i → min ≤ℤ from
ends_low t i from min e f = go from min (low_in (bounds_on t) i) (low_end t.shape.ends i) e f (low_from_end t.shape.ends (lits_of t.entries) i)
  where
    go : (x y u v : ℤ) → x ≡ u → y ≡ v → v ≤ℤ u → y ≤ℤ x
    go x y u v e f h = omega (arith, ints, e, f, h)

pub ends_high : (t : Assignment) (i : Item) (to max : ℤ) → to ≡ high_in (bounds_on t) i → max ≡ high_end t.shape.ends i → to ≤ℤ max
ends_high t i to max e f = go to max (high_in (bounds_on t) i) (high_end t.shape.ends i) e f (high_from_end t.shape.ends (lits_of t.entries) i)
  where
    go : (x y u v : ℤ) → x ≡ u → y ≡ v → u ≤ℤ v → x ≤ℤ y
    go x y u v e f h = omega (arith, ints, e, f, h)

-- ITEM AFTER ITEM

pub each_append : (P : Lit → Type 0) (xs ys : List Lit) → AllByRecursion P xs → AllByRecursion P ys → AllByRecursion P (xs ++ ys)
each_append P [] ys a b = b
each_append P (x ∷ xs) ys a b = (a.0, each_append P xs ys a.1 b)

pub each_front : (P : Lit → Type 0) (xs ys : List Lit) → AllByRecursion P (xs ++ ys) → AllByRecursion P xs
each_front P [] ys a = tt
each_front P (x ∷ xs) ys a = (a.0, each_front P xs ys a.1)

pub each_back : (P : Lit → Type 0) (xs ys : List Lit) → AllByRecursion P (xs ++ ys) → AllByRecursion P ys
each_back P [] ys a = a
each_back P (x ∷ xs) ys a = each_back P xs ys a.1

pub each_as : (P Q : Lit → Type 0) (ls : List Lit) → ((m : Lit) → P m → Q m) → AllByRecursion P ls → AllByRecursion Q ls
each_as P Q [] h a = tt
each_as P Q (l ∷ ls) h a = (h l a.0, each_as P Q ls h a.1)
