-- What holds of all numbers up to one goes on to the next.
use Rattle.std.proofs.Common.{◌≡◌, ◌⊎◌, inl, inr, ℕ, zero, suc, ◌+◌, ◌≤◌, Bool, true, false, cond, ℤ, List, [], ◌∷◌, ◌++◌, map, refl, sym, ◌∙◌, ap, subst, arith}
use Rattle.std.specs.List.{filter, range_with_len}
use Rattle.std.proofs.lemmas.List.FromFn.{map-range_with_len_more}
use Rattle.decisions.specs.inner.Taken.{one_if}

split : (n at : ℕ) → n ≤ at + 1 → (n ≤ at) ⊎ (n ≡ at + 1)
split n at h = grind arith

pub up_to_next : (P : ℕ → Type 0) (at : ℕ) → ((n : ℕ) → 1 ≤ n → n ≤ at → P n) → P (at + 1) → (n : ℕ) → 1 ≤ n → n ≤ at + 1 → P n
up_to_next P at all here n low high = by_case (split n at high)
  where
    by_case : (n ≤ at) ⊎ (n ≡ at + 1) → P n
    by_case (inl le) = all n low le
    by_case (inr same) = subst P (sym same) here

pub filter_next : (p : ℕ → Bool) (a n : ℕ) → filter p (range_with_len a (suc n)) ≡ filter p (range_with_len a n) ++ one_if (p (a + n)) (a + n)
filter_next p a zero = one (p a) (p (a + 0)) (ap p same)
  where
    same : a ≡ a + 0
    same = omega arith

    one : (b c : Bool) → b ≡ c → cond b (a ∷ []) [] ≡ one_if c (a + 0)
    one true true e = ap (λ (x : ℕ). x ∷ []) same
    one true false e = let no : true ≡ false = e in cc
    one false true e = let no : false ≡ true = e in cc
    one false false e = refl
filter_next p a (suc n) = go (p a) (filter_next p (a + 1) n)
  where
    same : (a + 1) + n ≡ a + suc n
    same = omega arith

    moved : filter p (range_with_len (a + 1) n) ++ one_if (p ((a + 1) + n)) ((a + 1) + n) ≡ filter p (range_with_len (a + 1) n) ++ one_if (p (a + suc n)) (a + suc n)
    moved = ap (λ (x : ℕ). filter p (range_with_len (a + 1) n) ++ one_if (p x) x) same

    go : (b : Bool) → filter p (range_with_len (a + 1) (suc n)) ≡ filter p (range_with_len (a + 1) n) ++ one_if (p ((a + 1) + n)) ((a + 1) + n)
        → cond b (a ∷ filter p (range_with_len (a + 1) (suc n))) (filter p (range_with_len (a + 1) (suc n))) ≡ cond b (a ∷ filter p (range_with_len (a + 1) n)) (filter p (range_with_len (a + 1) n)) ++ one_if (p (a + suc n)) (a + suc n)
    go true rest = ap (λ (xs : List ℕ). a ∷ xs) (rest ∙ moved)
    go false rest = rest ∙ moved

-- the numbers from 1 on that pass, and the next one if it does
pub filter_more : (p : ℕ → Bool) (n : ℕ) (old new : List ℕ) → old ≡ filter p (range_with_len 1 n) → new ≡ old ++ one_if (p (n + 1)) (n + 1) → new ≡ filter p (range_with_len 1 (n + 1))
filter_more p n old new e h =
    let same : n + 1 ≡ 1 + n = omega arith in
    let more : suc n ≡ n + 1 = omega arith in
    h ∙ ap (λ (xs : List ℕ). xs ++ one_if (p (n + 1)) (n + 1)) e ∙ ap (λ (x : ℕ). filter p (range_with_len 1 n) ++ one_if (p x) x) same ∙ sym (filter_next p 1 n) ∙ ap (λ (m : ℕ). filter p (range_with_len 1 m)) more

pub map_more : (f : ℕ → ℤ) (n : ℕ) (old new : List ℤ) (z : ℤ) → old ≡ map f (range_with_len 1 n) → new ≡ old ++ z ∷ [] → z ≡ f (n + 1) → new ≡ map f (range_with_len 1 (n + 1))
map_more f n old new z e h is =
    h ∙ ap (λ (xs : List ℤ). xs ++ z ∷ []) e ∙ ap (λ (x : ℤ). map f (range_with_len 1 n) ++ x ∷ []) is ∙ sym (map-range_with_len_more f 1 n (n + 1) (omega arith))
