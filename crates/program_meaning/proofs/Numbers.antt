-- Symbols and their numbers.
use Rattle.std.proofs.Common.{◌≡◌, ◌≤◌, ◌<◌, ◌+◌, inl, inr, ℕ, suc, Bool, true, false, if◌then◌else◌, List, [], ◌∷◌, length, None, Some, refl, sym, ◌∙◌, ap, subst, arith}
use Rattle.std.specs.Ordering.{is_eq}
use Rattle.std.specs.declared.cmp.Ordering.{Ordering}
use Rattle.std.specs.declared.cmp.Ordering.TheVariants.{Less, Equal, Greater}
use Rattle.symbols.specs.Symbol.{Symbol}
use Rattle.symbols.specs.Order.{symbol_cmp}
use Rattle.symbols.proofs.OrderLemmas.{symbol_cmp-level, symbol_cmp-itself}
use Rattle.ground_model.specs.Members.{IsMember}
use Rattle.program_meaning.specs.Canonical.{number_from}

pub some_same : (m n : ℕ) → Some m ≡ Some n → m ≡ n
some_same m n e = cc

pub not_some : {X : Type 0} (n : ℕ) → None ≡ Some n → X
not_some n e = cc

-- symbols that the test finds equal are equal
pub same_symbol : (a x : Symbol) → is_eq (symbol_cmp a x) ≡ true → a ≡ x
same_symbol a x e = symbol_cmp-level a x (level (symbol_cmp a x) e)
  where
    level : (o : Ordering) → is_eq o ≡ true → o ≡ Equal
    level Less e = cc
    level Equal e = refl
    level Greater e = cc

itself : (a : Symbol) → is_eq (symbol_cmp a a) ≡ true
itself a = ap is_eq (symbol_cmp-itself a)

pub number_least : (n : ℕ) (xs : List Symbol) (a : Symbol) (k : ℕ) → number_from n xs a ≡ Some k → n ≤ k
number_least n [] a k e = not_some k e
number_least n (x ∷ xs) a k e = go (is_eq (symbol_cmp a x)) (number_least (suc n) xs a k) e
  where
    go : (t : Bool) → (number_from (suc n) xs a ≡ Some k → suc n ≤ k) → (if t then Some n else number_from (suc n) xs a) ≡ Some k → n ≤ k
    go true rec e = let s = some_same n k e in omega (arith, s)
    go false rec e = let s = rec e in omega (arith, s)

pub number_most : (n : ℕ) (xs : List Symbol) (a : Symbol) (k : ℕ) → number_from n xs a ≡ Some k → k < n + length xs
number_most n [] a k e = not_some k e
number_most n (x ∷ xs) a k e = go (is_eq (symbol_cmp a x)) (number_most (suc n) xs a k) e
  where
    go : (t : Bool) → (number_from (suc n) xs a ≡ Some k → k < suc n + length xs) → (if t then Some n else number_from (suc n) xs a) ≡ Some k → k < n + suc (length xs)
    go true rec e = let s = some_same n k e in omega (arith, s)
    go false rec e = let s = rec e in omega (arith, s)

pub number_found : (n : ℕ) (xs : List Symbol) (a : Symbol) → IsMember xs a → (k : ℕ) × (number_from n xs a ≡ Some k)
number_found n [] a m = absurd m
number_found n (x ∷ xs) a (inl e) =
    (n, ap (λ t. if t then Some n else number_from (suc n) xs a) (subst (λ y. is_eq (symbol_cmp a y) ≡ true) e (itself a)))
number_found n (x ∷ xs) a (inr m) = go (is_eq (symbol_cmp a x)) (number_found (suc n) xs a m)
  where
    go : (t : Bool) → (k : ℕ) × (number_from (suc n) xs a ≡ Some k) → (k : ℕ) × ((if t then Some n else number_from (suc n) xs a) ≡ Some k)
    go true r = (n, refl)
    go false r = r

pub number_member : (n : ℕ) (xs : List Symbol) (a : Symbol) (k : ℕ) → number_from n xs a ≡ Some k → IsMember xs a
number_member n [] a k e = not_some k e
number_member n (x ∷ xs) a k e = go (is_eq (symbol_cmp a x)) refl (number_member (suc n) xs a k) e
  where
    go : (t : Bool) → is_eq (symbol_cmp a x) ≡ t → (number_from (suc n) xs a ≡ Some k → IsMember xs a)
        → (if t then Some n else number_from (suc n) xs a) ≡ Some k → IsMember (x ∷ xs) a
    go true s rec e = inl (same_symbol a x s)
    go false s rec e = inr (rec e)

pub number_one : (n : ℕ) (xs : List Symbol) (a c : Symbol) (k : ℕ) → number_from n xs a ≡ Some k → number_from n xs c ≡ Some k → a ≡ c
number_one n [] a c k p q = not_some k p
number_one n (x ∷ xs) a c k p q = go (is_eq (symbol_cmp a x)) (is_eq (symbol_cmp c x)) refl refl (number_one (suc n) xs a c k) p q
  where
    go : (s t : Bool) → is_eq (symbol_cmp a x) ≡ s → is_eq (symbol_cmp c x) ≡ t → (number_from (suc n) xs a ≡ Some k → number_from (suc n) xs c ≡ Some k → a ≡ c)
        → (if s then Some n else number_from (suc n) xs a) ≡ Some k → (if t then Some n else number_from (suc n) xs c) ≡ Some k → a ≡ c
    go true true u v rec p q = same_symbol a x u ∙ sym (same_symbol c x v)
    go true false u v rec p q = let l = number_least (suc n) xs c k q in let m = some_same n k p in absurd (omega (arith, l, m))
    go false true u v rec p q = let l = number_least (suc n) xs a k p in let m = some_same n k q in absurd (omega (arith, l, m))
    go false false u v rec p q = rec p q
