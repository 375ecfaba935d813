-- A number among intervals that ascend, and the gap in which it lies.
use Rattle.std.proofs.Common.{◌≡◌, ℕ, zero, suc, ◌-◌, ◌<◌, ◌≤◌, Bool, true, false, ◌&&◌, ◌||◌, refl, arith, List, [], ◌∷◌, length, get_or, Option, None, Some, IfSome, IfNone, ℤ, pos, ◌+ℤ◌, ◌≤ℤ◌, ◌<ℤ◌, ◌⊎◌, inl, inr}
use Rattle.std.specs.Prelude.{int_le, int_lt}
use Rattle.std.specs.List.{list_all}
use Rattle.std.specs.List.Sorted.{IsPartitionPoint, IsPartitionedBy}
use Rattle.std.proofs.lemmas.Bool.Decides.{nat_tests}
use Rattle.std.proofs.lemmas.Int.{ints}
use Rattle.ground_model.specs.Intervals.{are_parted, are_parted_from, lies_in}
use Rattle.ground_model.proofs.Bools.{and_elim, and_intro, or_left, or_right}
use Rattle.linear_normal.specs.Steps.{none_between}
use Rattle.propagators.specs.inner.Gaps.{IsEndBefore, IsGap}

pub le_true : (a b : ℤ) → int_le a b ≡ true → a ≤ℤ b
le_true a b h = grind (arith, nat_tests, ints)

pub true_le : (a b : ℤ) → a ≤ℤ b → int_le a b ≡ true
true_le a b h = grind (arith, nat_tests, ints)

pub lt_true : (a b : ℤ) → int_lt a b ≡ true → a <ℤ b
lt_true a b h = grind (arith, nat_tests, ints)

pub true_lt : (a b : ℤ) → a <ℤ b → int_lt a b ≡ true
true_lt a b h = grind (arith, nat_tests, ints)

pub lt_false : (a b : ℤ) → int_lt a b ≡ false → b ≤ℤ a
lt_false a b h = grind (arith, nat_tests, ints)

-- INTERVALS THAT ASCEND

-- the first is not empty, and the others are parted from it
abbrev pub Parted : List (ℤ × ℤ) → Type 0
Parted [] = Unit {0}
Parted (x ∷ xs) = (x.0 ≤ℤ x.1) × (are_parted_from x.1 xs ≡ true)

pub parted_of : (xs : List (ℤ × ℤ)) → are_parted xs ≡ true → Parted xs
parted_of [] h = tt
parted_of (x ∷ xs) h = let p = and_elim (int_le x.0 x.1) (are_parted_from x.1 xs) h in (le_true x.0 x.1 p.0, p.1)

-- the first of those that are parted from a number begins above it, and they are parted
first_from : (last : ℤ) (x : ℤ × ℤ) (xs : List (ℤ × ℤ)) → are_parted_from last (x ∷ xs) ≡ true → (last <ℤ x.0) × (x.0 ≤ℤ x.1) × (are_parted_from x.1 xs ≡ true)
first_from last x xs h =
    let p = and_elim (int_le (last +ℤ pos 2) x.0 && int_le x.0 x.1) (are_parted_from x.1 xs) h in
    let q = and_elim (int_le (last +ℤ pos 2) x.0) (int_le x.0 x.1) p.0 in
    (after (last +ℤ pos 2) refl (le_true (last +ℤ pos 2) x.0 q.0), le_true x.0 x.1 q.1, p.1)
  where
    after : (k : ℤ) → k ≡ last +ℤ pos 2 → k ≤ℤ x.0 → last <ℤ x.0
    after k e h = omega (arith, ints, e, h)

rest_of : (x : ℤ × ℤ) (xs : List (ℤ × ℤ)) → Parted (x ∷ xs) → Parted xs
rest_of x [] p = tt
rest_of x (y ∷ ys) p = let f = first_from x.1 y ys p.1 in (f.1, f.2)

-- each is above the number from which they are parted, and is not empty
from_at : (last : ℤ) (xs : List (ℤ × ℤ)) (j : ℕ) (d : ℤ × ℤ) → are_parted_from last xs ≡ true → j < length xs → last <ℤ (get_or xs j d).0
from_at last [] j d h l = absurd (omega arith)
from_at last (x ∷ xs) zero d h l = (first_from last x xs h).0
from_at last (x ∷ xs) (suc j) d h l =
    let f = first_from last x xs h in
    on (get_or xs j d).0 f.0 f.1 (from_at x.1 xs j d f.2 (omega arith))
  where
    on : (k : ℤ) → last <ℤ x.0 → x.0 ≤ℤ x.1 → x.1 <ℤ k → last <ℤ k
    on k a b c = omega (arith, ints, a, b, c)

pub fit_at : (xs : List (ℤ × ℤ)) (j : ℕ) (d : ℤ × ℤ) → Parted xs → j < length xs → (get_or xs j d).0 ≤ℤ (get_or xs j d).1
fit_at [] j d p l = absurd (omega arith)
fit_at (x ∷ xs) zero d p l = p.0
fit_at (x ∷ xs) (suc j) d p l = fit_at xs j d (rest_of x xs p) (omega arith)

same_le : (a : ℤ) → a ≤ℤ a
same_le a = omega (arith, ints)

pub ends_up : (xs : List (ℤ × ℤ)) (i j : ℕ) (d : ℤ × ℤ) → Parted xs → i ≤ j → j < length xs → (get_or xs i d).1 ≤ℤ (get_or xs j d).1
ends_up [] i j d p le l = absurd (omega arith)
ends_up (x ∷ xs) zero zero d p le l = same_le x.1
ends_up (x ∷ xs) zero (suc j) d p le l = on (get_or xs j d).0 (get_or xs j d).1 (from_at x.1 xs j d p.1 (omega arith)) (fit_at xs j d (rest_of x xs p) (omega arith))
  where
    on : (a b : ℤ) → x.1 <ℤ a → a ≤ℤ b → x.1 ≤ℤ b
    on a b f g = omega (arith, ints, f, g)
ends_up (x ∷ xs) (suc i) zero d p le l = absurd (omega arith)
ends_up (x ∷ xs) (suc i) (suc j) d p le l = ends_up xs i j d (rest_of x xs p) (omega arith) (omega arith)

pub starts_up : (xs : List (ℤ × ℤ)) (i j : ℕ) (d : ℤ × ℤ) → Parted xs → i ≤ j → j < length xs → (get_or xs i d).0 ≤ℤ (get_or xs j d).0
starts_up [] i j d p le l = absurd (omega arith)
starts_up (x ∷ xs) zero zero d p le l = same_le x.0
starts_up (x ∷ xs) zero (suc j) d p le l = on (get_or xs j d).0 p.0 (from_at x.1 xs j d p.1 (omega arith))
  where
    on : (a : ℤ) → x.0 ≤ℤ x.1 → x.1 <ℤ a → x.0 ≤ℤ a
    on a f g = omega (arith, ints, f, g)
starts_up (x ∷ xs) (suc i) zero d p le l = absurd (omega arith)
starts_up (x ∷ xs) (suc i) (suc j) d p le l = starts_up xs i j d (rest_of x xs p) (omega arith) (omega arith)

-- those that end below a number come first
pub parted_below : (xs : List (ℤ × ℤ)) (k : ℤ) → are_parted xs ≡ true → IsPartitionedBy (λ (x : ℤ × ℤ). int_lt x.1 k) xs
parted_below xs k h i j d le l e =
    under (get_or xs i d).1 (get_or xs j d).1 (ends_up xs i j d (parted_of xs h) le l) e
  where
    under : (a b : ℤ) → a ≤ℤ b → int_lt b k ≡ true → int_lt a k ≡ true
    under a b f g = let g' = lt_true b k g in true_lt a k (omega (arith, ints, f, g'))

-- IN THE SET

pub lies_at : (xs : List (ℤ × ℤ)) (at : ℕ) (d : ℤ × ℤ) (k : ℤ) → at < length xs → (get_or xs at d).0 ≤ℤ k → k ≤ℤ (get_or xs at d).1 → lies_in xs k ≡ true
lies_at [] at d k l a b = absurd (omega arith)
lies_at (x ∷ xs) zero d k l a b = or_left (int_le x.0 k && int_le k x.1) (lies_in xs k) (and_intro (int_le x.0 k) (int_le k x.1) (true_le x.0 k a) (true_le k x.1 b))
lies_at (x ∷ xs) (suc at) d k l a b = or_right (int_le x.0 k && int_le k x.1) (lies_in xs k) (lies_at xs at d k (omega arith) a b)

-- a number of the set within bounds
pub lies_between : (xs : List (ℤ × ℤ)) (low high k : ℤ) → lies_in xs k ≡ true → low ≤ℤ k → k ≤ℤ high → none_between low high xs ≡ true → ⊥
lies_between [] low high k h a b n = let no : false ≡ true = h in cc
lies_between (x ∷ xs) low high k h a b n = cases (int_le x.0 k && int_le k x.1) refl h (λ g. lies_between xs low high k g a b m.1)
  where
    m : ((int_lt high low || int_lt x.1 low || int_lt high x.0) ≡ true) × (none_between low high xs ≡ true)
    m = and_elim (int_lt high low || int_lt x.1 low || int_lt high x.0) (none_between low high xs) n

    no : (p q r : Bool) → int_lt high low ≡ p → int_lt x.1 low ≡ q → int_lt high x.0 ≡ r → (p || q || r) ≡ true → x.0 ≤ℤ k → k ≤ℤ x.1 → ⊥
    no true q r e f g o c d = let w = lt_true high low e in omega (arith, ints, w, a, b)
    no false true r e f g o c d = let w = lt_true x.1 low f in omega (arith, ints, w, a, d)
    no false false true e f g o c d = let w = lt_true high x.0 g in omega (arith, ints, w, b, c)
    no false false false e f g o c d = let z : false ≡ true = o in cc

    cases : (p : Bool) → (int_le x.0 k && int_le k x.1) ≡ p → (p || lies_in xs k) ≡ true → (lies_in xs k ≡ true → ⊥) → ⊥
    cases true e h g =
        let p = and_elim (int_le x.0 k) (int_le k x.1) e in
        no (int_lt high low) (int_lt x.1 low) (int_lt high x.0) refl refl refl m.0 (le_true x.0 k p.0) (le_true k x.1 p.1)
    cases false e h g = g h

-- narrower bounds have no number either
pub none_within : (xs : List (ℤ × ℤ)) (low high from to : ℤ) → low ≤ℤ from → to ≤ℤ high → none_between low high xs ≡ true → none_between from to xs ≡ true
none_within [] low high from to a b n = refl
none_within (x ∷ xs) low high from to a b n =
    let m = and_elim (int_lt high low || int_lt x.1 low || int_lt high x.0) (none_between low high xs) n in
    and_intro (int_lt to from || int_lt x.1 from || int_lt to x.0) (none_between from to xs)
    (here (int_lt high low) (int_lt x.1 low) (int_lt high x.0) refl refl refl m.0)
    (none_within xs low high from to a b m.1)
  where
    here : (p q r : Bool) → int_lt high low ≡ p → int_lt x.1 low ≡ q → int_lt high x.0 ≡ r → (p || q || r) ≡ true → (int_lt to from || int_lt x.1 from || int_lt to x.0) ≡ true
    here true q r e f g o = let w = lt_true high low e in or_left (int_lt to from || int_lt x.1 from) (int_lt to x.0) (or_left (int_lt to from) (int_lt x.1 from) (true_lt to from (omega (arith, ints, w, a, b))))
    here false true r e f g o =
        let w = lt_true x.1 low f in
        or_left (int_lt to from || int_lt x.1 from) (int_lt to x.0) (or_right (int_lt to from) (int_lt x.1 from) (true_lt x.1 from (omega (arith, ints, w, a))))
    here false false true e f g o =
        let w = lt_true high x.0 g in
        or_right (int_lt to from || int_lt x.1 from) (int_lt to x.0) (true_lt to x.0 (omega (arith, ints, w, b)))
    here false false false e f g o = let z : false ≡ true = o in cc

-- THE GAP

all_at : {X : Type 0} (p : X → Bool) (xs : List X) → ((j : ℕ) (d : X) → j < length xs → p (get_or xs j d) ≡ true) → list_all p xs ≡ true
all_at p [] h = refl
all_at p (x ∷ xs) h = and_intro (p x) (list_all p xs) (h 0 x (omega arith)) (all_at p xs (λ j d l. h (suc j) d (omega arith)))

-- what ends below the lower bound, and what begins above the upper one
misses_low : (low high : ℤ) (x : ℤ × ℤ) → x.1 <ℤ low → (int_lt high low || int_lt x.1 low || int_lt high x.0) ≡ true
misses_low low high x h = or_left (int_lt high low || int_lt x.1 low) (int_lt high x.0) (or_right (int_lt high low) (int_lt x.1 low) (true_lt x.1 low h))

misses_high : (low high : ℤ) (x : ℤ × ℤ) → high <ℤ x.0 → (int_lt high low || int_lt x.1 low || int_lt high x.0) ≡ true
misses_high low high x h = or_right (int_lt high low || int_lt x.1 low) (int_lt high x.0) (true_lt high x.0 h)

-- those before the place end below what stands below the gap
below_at : (xs : List (ℤ × ℤ)) (at j : ℕ) (d : ℤ × ℤ) (below : Option ℤ) (low : ℤ) → Parted xs → at ≤ length xs → j < at → IfNone below (at ≡ 0) → IfSome below (IsEndBefore xs at) → IfSome below (λ a. a <ℤ low) → (get_or xs j d).1 <ℤ low
below_at xs at j d None low p le l n s o = absurd (omega arith)
below_at xs at j d (Some a) low p le l n s o = on (get_or xs j d).1 (get_or xs (at - 1) d).1 (ends_up xs j (at - 1) d p (omega arith) (omega arith)) (s.1 d) o
  where
    on : (u v : ℤ) → u ≤ℤ v → a ≡ v → a <ℤ low → u <ℤ low
    on u v f g h = omega (arith, ints, f, g, h)

over_at : (xs : List (ℤ × ℤ)) (k : ℤ) (at : ℕ) (below : Option ℤ) → at ≤ length xs → IsPartitionPoint (λ (x : ℤ × ℤ). int_lt x.1 k ≡ true) (λ (x : ℤ × ℤ). int_lt x.1 k ≡ false) xs at → IfSome below (IsEndBefore xs at) → IfSome below (λ a. a <ℤ k)
over_at xs k at None le p s = tt
over_at xs k at (Some a) le p s =
    let d : ℤ × ℤ = (pos 0, pos 0) in
    let lt : 1 ≤ at = s.0 in
    on (get_or xs (at - 1) (pos 0, pos 0)).1 (s.1 (pos 0, pos 0)) (lt_true (get_or xs (at - 1) (pos 0, pos 0)).1 k (p.0 (at - 1) (pos 0, pos 0) (omega arith) (omega arith)))
  where
    on : (v : ℤ) → a ≡ v → v <ℤ k → a <ℤ k
    on v e h = omega (arith, ints, e, h)

-- all intervals end below the number
pub gap_last : (xs : List (ℤ × ℤ)) (k : ℤ) (at : ℕ) (below : Option ℤ) → are_parted xs ≡ true → at ≡ length xs → IsPartitionPoint (λ (x : ℤ × ℤ). int_lt x.1 k ≡ true) (λ (x : ℤ × ℤ). int_lt x.1 k ≡ false) xs at → IfNone below (at ≡ 0) → IfSome below (IsEndBefore xs at) → IsGap xs k (record { below = below; above = None })
gap_last xs k at below h e p n s = record {
  over = over_at xs k at below (omega arith) p s;
  under = tt;
  above = tt;
  none = λ low high o u. all_at (λ (x : ℤ × ℤ). int_lt high low || int_lt x.1 low || int_lt high x.0) xs
      (λ j d l. misses_low low high (get_or xs j d) (below_at xs at j d below low (parted_of xs h) (omega arith) (omega arith) n s o));
}

-- the number lies before the interval at the place
pub gap_inner : (xs : List (ℤ × ℤ)) (k above : ℤ) (at : ℕ) (below : Option ℤ) → are_parted xs ≡ true → at < length xs → IsPartitionPoint (λ (x : ℤ × ℤ). int_lt x.1 k ≡ true) (λ (x : ℤ × ℤ). int_lt x.1 k ≡ false) xs at → IfNone below (at ≡ 0) → IfSome below (IsEndBefore xs at) → ((d : ℤ × ℤ) → above ≡ (get_or xs at d).0) → k <ℤ above → IsGap xs k (record { below = below; above = Some above })
gap_inner xs k above at below h l p n s e lt = record {
  over = over_at xs k at below (omega arith) p s;
  under = lt;
  above = lies_at xs at (pos 0, pos 0) above l (first (get_or xs at (pos 0, pos 0)).0 (e (pos 0, pos 0))) (last (get_or xs at (pos 0, pos 0)).0 (get_or xs at (pos 0, pos 0)).1 (e (pos 0, pos 0)) (fit_at xs at (pos 0, pos 0) (parted_of xs h) l));
  none = λ low high o u. all_at (λ (x : ℤ × ℤ). int_lt high low || int_lt x.1 low || int_lt high x.0) xs (λ j d m. side low high j d m o u (lt_or j at));
}
  where
    first : (v : ℤ) → above ≡ v → v ≤ℤ above
    first v f = omega (arith, ints, f)

    last : (v w : ℤ) → above ≡ v → v ≤ℤ w → above ≤ℤ w
    last v w f g = omega (arith, ints, f, g)

    lt_or : (i j : ℕ) → (i < j) ⊎ (j ≤ i)
    lt_or i j = grind arith

    over : (high v w : ℤ) → high <ℤ above → above ≡ v → v ≤ℤ w → high <ℤ w
    over high v w a b c = omega (arith, ints, a, b, c)

    side : (low high : ℤ) (j : ℕ) (d : ℤ × ℤ) → j < length xs → IfSome below (λ a. a <ℤ low) → high <ℤ above → (j < at) ⊎ (at ≤ j) → (int_lt high low || int_lt (get_or xs j d).1 low || int_lt high (get_or xs j d).0) ≡ true
    side low high j d m o u (inl q) = misses_low low high (get_or xs j d) (below_at xs at j d below low (parted_of xs h) (omega arith) q n s o)
    side low high j d m o u (inr q) = misses_high low high (get_or xs j d) (over high (get_or xs at d).0 (get_or xs j d).0 u (e d) (starts_up xs at j d (parted_of xs h) q m))

-- the number is in the interval at the place
pub lies_behind : (xs : List (ℤ × ℤ)) (k above : ℤ) (at : ℕ) → at < length xs → IsPartitionPoint (λ (x : ℤ × ℤ). int_lt x.1 k ≡ true) (λ (x : ℤ × ℤ). int_lt x.1 k ≡ false) xs at → ((d : ℤ × ℤ) → above ≡ (get_or xs at d).0) → above ≤ℤ k → lies_in xs k ≡ true
lies_behind xs k above at l p e le =
    lies_at xs at (pos 0, pos 0) k l (on (get_or xs at (pos 0, pos 0)).0 (e (pos 0, pos 0)) le) (lt_false (get_or xs at (pos 0, pos 0)).1 k (p.1 at (pos 0, pos 0) (omega arith) l))
  where
    on : (v : ℤ) → above ≡ v → above ≤ℤ k → v ≤ℤ k
    on v f g = omega (arith, ints, f, g)
