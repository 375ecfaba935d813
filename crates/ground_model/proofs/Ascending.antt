-- Ascending lists with the same members are equal.
use Rattle.std.proofs.Common.{◌≡◌, ◌<◌, ◌≤◌, ◌⊎◌, inl, inr, ℕ, true, ◌==◌, nat_lt, List, [], ◌∷◌, refl, sym, ap₂, true≢false, eqb-true, arith}
use Rattle.std.proofs.lemmas.Bool.Decides.{nat_tests}
use Rattle.ground_model.specs.Answers.{ascend_from, has_atom}
use Rattle.ground_model.proofs.Bools.{and_elim, or_elim, or_left, or_right}
use Rattle.ground_model.proofs.MemberLemmas.{same_nat}

below_first : (last x : ℕ) → nat_lt last x ≡ true → last < x
below_first last x e = grind (arith, nat_tests)

pub above_last : (last : ℕ) (xs : List ℕ) (a : ℕ) → ascend_from last xs ≡ true → has_atom xs a ≡ true → last < a
above_last last [] a e m = absurd (true≢false (sym m))
above_last last (x ∷ xs) a e m =
    let p = and_elim (nat_lt last x) (ascend_from x xs) e in
    let first = below_first last x p.0 in
    go first (or_elim (x == a) (has_atom xs a) m) (above_last x xs a p.1)
  where
    go : last < x → ((x == a) ≡ true) ⊎ (has_atom xs a ≡ true) → (has_atom xs a ≡ true → x < a) → last < a
    go first (inl q) rec = let s : x ≡ a = eqb-true x a q in omega arith
    go first (inr q) rec = let r = rec q in omega arith

first_least : (x y : ℕ) (ys : List ℕ) → ascend_from y ys ≡ true → has_atom (y ∷ ys) x ≡ true → y ≤ x
first_least x y ys e m = go (or_elim (y == x) (has_atom ys x) m) (above_last y ys x e)
  where
    go : ((y == x) ≡ true) ⊎ (has_atom ys x ≡ true) → (has_atom ys x ≡ true → y < x) → y ≤ x
    go (inl q) rec = let s : y ≡ x = eqb-true y x q in omega arith
    go (inr q) rec = let r = rec q in omega arith

has_first : (x : ℕ) (xs : List ℕ) → has_atom (x ∷ xs) x ≡ true
has_first x xs = or_left (x == x) (has_atom xs x) (same_nat x x refl)

tail_has : (x y : ℕ) (xs ys : List ℕ) → x ≡ y → ascend_from x xs ≡ true → ((a : ℕ) → has_atom (x ∷ xs) a ≡ true → has_atom (y ∷ ys) a ≡ true)
    → (a : ℕ) → has_atom xs a ≡ true → has_atom ys a ≡ true
tail_has x y xs ys same e f a m = go (or_elim (y == a) (has_atom ys a) (f a (or_right (x == a) (has_atom xs a) m)))
  where
    go : ((y == a) ≡ true) ⊎ (has_atom ys a ≡ true) → has_atom ys a ≡ true
    go (inl q) = let s : y ≡ a = eqb-true y a q in let l = above_last x xs a e m in absurd (omega arith)
    go (inr q) = q

pub ascending_same : (low high : ℕ) (xs ys : List ℕ) → ascend_from low xs ≡ true → ascend_from high ys ≡ true
    → ((a : ℕ) → has_atom xs a ≡ true → has_atom ys a ≡ true) → ((a : ℕ) → has_atom ys a ≡ true → has_atom xs a ≡ true) → xs ≡ ys
ascending_same low high [] [] e d f g = refl
ascending_same low high [] (y ∷ ys) e d f g = absurd (true≢false (sym (g y (has_first y ys))))
ascending_same low high (x ∷ xs) [] e d f g = absurd (true≢false (sym (f x (has_first x xs))))
ascending_same low high (x ∷ xs) (y ∷ ys) e d f g =
    let p = and_elim (nat_lt low x) (ascend_from x xs) e in
    let q = and_elim (nat_lt high y) (ascend_from y ys) d in
    let l = first_least x y ys q.1 (f x (has_first x xs)) in
    let r = first_least y x xs p.1 (g y (has_first y ys)) in
    let s : x ≡ y = omega arith in
    ap₂ (λ z zs. z ∷ zs) s
    (ascending_same x y xs ys p.1 q.1 (tail_has x y xs ys s p.1 f) (tail_has y x ys xs (sym s) q.1 g))
