-- An atom looked up among ascending ones.
use Rattle.std.proofs.Common.{◌≡◌, ◌⊎◌, inl, inr, ℕ, zero, suc, ◌<◌, ◌≤◌, ◌==◌, nat_lt, Bool, true, false, ◌||◌, List, [], ◌∷◌, get_or, length, Result, Ok, Err, is_ok, refl, sym, true≢false, eqb-true, arith}
use Rattle.std.specs.List.Sorted.{IsBinarySearchResult}
use Rattle.std.specs.Ordering.{nat_cmp}
use Rattle.std.proofs.lemmas.Bool.Decides.{nat_tests}
use Rattle.std.proofs.lemmas.List.Sorted.{searched}
use Rattle.ground_model.specs.Answers.{ascend_from, has_atom}
use Rattle.ground_model.proofs.Bools.{and_elim, bool_cases}
use Rattle.ground_model.proofs.MemberLemmas.{same_nat}

above_last : (last : ℕ) (xs : List ℕ) → ascend_from last xs ≡ true → (j : ℕ) → j < length xs → last < get_or xs j 0
above_last last [] e j below = absurd (omega arith)
above_last last (x ∷ xs) e zero below = let t = (and_elim (nat_lt last x) (ascend_from x xs) e).0 in grind (arith, nat_tests)
above_last last (x ∷ xs) e (suc j) below =
    let s = and_elim (nat_lt last x) (ascend_from x xs) e in
    let low : last < x = first s.0 in
    let high = above_last x xs s.1 j (omega arith) in
    omega arith
  where
    first : nat_lt last x ≡ true → last < x
    first t = grind (arith, nat_tests)

climbing : (last : ℕ) (xs : List ℕ) → ascend_from last xs ≡ true → (i j : ℕ) → i ≤ j → j < length xs → get_or xs i 0 ≤ get_or xs j 0
climbing last [] e i j le below = absurd (omega arith)
climbing last (x ∷ xs) e zero zero le below = omega arith
climbing last (x ∷ xs) e zero (suc j) le below = let high = above_last x xs (and_elim (nat_lt last x) (ascend_from x xs) e).1 j (omega arith) in omega arith
climbing last (x ∷ xs) e (suc i) zero le below = absurd (omega arith)
climbing last (x ∷ xs) e (suc i) (suc j) le below = climbing x xs (and_elim (nat_lt last x) (ascend_from x xs) e).1 i j (omega arith) (omega arith)

atom_at : (xs : List ℕ) (a i : ℕ) → i < length xs → get_or xs i 0 ≡ a → has_atom xs a ≡ true
atom_at [] a i below e = absurd (omega arith)
atom_at (x ∷ xs) a zero below e = or_left (x == a) (has_atom xs a) (same_nat x a e)
  where
    or_left : (s t : Bool) → s ≡ true → (s || t) ≡ true
    or_left true t e = refl
    or_left false t e = absurd (true≢false (sym e))
atom_at (x ∷ xs) a (suc i) below e = or_right (x == a) (has_atom xs a) (atom_at xs a i (omega arith) e)
  where
    or_right : (s t : Bool) → t ≡ true → (s || t) ≡ true
    or_right true t e = refl
    or_right false t e = e

no_atom : (xs : List ℕ) (a : ℕ) → ((i : ℕ) → i < length xs → get_or xs i 0 ≡ a → ⊥) → has_atom xs a ≡ false
no_atom [] a none = refl
no_atom (x ∷ xs) a none = both (x == a) (has_atom xs a) (differs (bool_cases (x == a))) (no_atom xs a (λ i below e. none (suc i) (omega arith) e))
  where
    both : (s t : Bool) → s ≡ false → t ≡ false → (s || t) ≡ false
    both true t e f = absurd (true≢false e)
    both false t e f = f

    differs : ((x == a) ≡ true) ⊎ ((x == a) ≡ false) → (x == a) ≡ false
    differs (inl e) = absurd (none 0 (omega arith) (eqb-true x a e))
    differs (inr e) = e

pub atom_searched : (xs : List ℕ) (a : ℕ) (r : Result ℕ ℕ) → IsBinarySearchResult (λ y. nat_cmp y a) xs r → ascend_from 0 xs ≡ true → is_ok r ≡ has_atom xs a
atom_searched xs a (Ok i) found up = let s = searched xs a (Ok i) found (climbing 0 xs up) in sym (atom_at xs a i s.0 s.1)
atom_searched xs a (Err i) found up =
    let s = searched xs a (Err i) found (climbing 0 xs up) in
    sym (no_atom xs a (λ k below e. either k below e s.1 s.2 (bool_cases (nat_lt k i))))
  where
    either : (k : ℕ) → k < length xs → get_or xs k 0 ≡ a → ((k : ℕ) → k < i → get_or xs k 0 < a) → ((k : ℕ) → i ≤ k → k < length xs → a < get_or xs k 0)
        → ((nat_lt k i ≡ true) ⊎ (nat_lt k i ≡ false)) → ⊥
    either k below e low high (inl t) = let l = low k (less t) in omega arith
      where
        less : nat_lt k i ≡ true → k < i
        less t = grind (arith, nat_tests)
    either k below e low high (inr t) = let h = high k (more t) below in omega arith
      where
        more : nat_lt k i ≡ false → i ≤ k
        more t = grind (arith, nat_tests)
