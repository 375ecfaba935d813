-- One statement more.
use Rattle.std.proofs.Common.{◌≡◌, ℕ, zero, suc, ◌+◌, ◌<◌, ◌≤◌, IsTrue, List, [], ◌∷◌, ◌++◌, map, take, drop, fold, length, Option, Some, None, slice_get, slice_set, slice_index_or, refl, sym, ap, ◌∙◌, subst, add-one, arith}
use Rattle.asp_parser.specs.ConstantTable.{IsSetBy}

-- the items up to a place are changed, and the others not yet
abbrev pub half : {A : Type 0} → (A → A) → List A → ℕ → List A
half f xs i = map f (take i xs) ++ drop i xs

pub half_more : {A : Type 0} (f : A → A) (xs : List A) (i : ℕ) (new : List A) → IsSetBy f (half f xs i) i new → i < length xs → new ≡ half f xs (suc i)
half_more f [] i new h b = absurd (omega arith)
half_more f (x ∷ xs) zero new h b = h
half_more f (x ∷ xs) (suc i) new h b = h.2 ∙ ap (λ rest. f x ∷ rest) (half_more f xs i h.0 h.1 (omega arith))

pub half_length : {A : Type 0} (f : A → A) (xs : List A) (i : ℕ) → length (half f xs i) ≡ length xs
half_length f [] zero = refl
half_length f [] (suc i) = refl
half_length f (x ∷ xs) zero = refl
half_length f (x ∷ xs) (suc i) = ap suc (half_length f xs i)

pub half_all : {A : Type 0} (f : A → A) (xs : List A) (i : ℕ) → length xs ≤ i → half f xs i ≡ map f xs
half_all f [] zero h = refl
half_all f [] (suc i) h = refl
half_all f (x ∷ xs) zero h = absurd (omega arith)
half_all f (x ∷ xs) (suc i) h = ap (λ rest. f x ∷ rest) (half_all f xs i (omega arith))

pub set_by : {A : Type 0} (f : A → A) (xs : List A) (at : ℕ) (x new : A) → x ≡ slice_index_or xs at x → at < length xs → new ≡ f x → IsSetBy f xs at (slice_set xs at new)
set_by f [] at x new is b h = absurd (omega arith)
set_by f (y ∷ ys) zero x new is b h = ap (λ v. v ∷ ys) (h ∙ ap f is)
set_by f (y ∷ ys) (suc at) x new is b h = (slice_set ys at new, set_by f ys at x new is (omega arith) h, refl)

pub kept_by : {A : Type 0} (f : A → A) (xs : List A) (at : ℕ) (x : A) → x ≡ slice_index_or xs at x → at < length xs → x ≡ f x → IsSetBy f xs at xs
kept_by f [] at x is b h = absurd (omega arith)
kept_by f (y ∷ ys) zero x is b h = ap (λ v. v ∷ ys) (sym is ∙ h ∙ ap f is)
kept_by f (y ∷ ys) (suc at) x is b h = (ys, kept_by f ys at x is (omega arith) h, refl)

pub fold_one : {A S : Type 0} (f : S → A → S) (z : S) (xs : List A) (i : ℕ) (x : A) → x ≡ slice_index_or xs i x → i < length xs → fold f z (take (suc i) xs) ≡ f (fold f z (take i xs)) x
fold_one f z [] i x h b = absurd (omega arith)
fold_one f z (y ∷ ys) zero x h b = ap (f z) (sym h)
fold_one f z (y ∷ ys) (suc i) x h b = fold_one f (f z y) ys i x h (omega arith)

pub got : {A : Type 0} (xs : List A) (i : ℕ) (x : A) → x ≡ slice_index_or xs i x → i < length xs → slice_get xs i ≡ Some x
got [] i x h b = absurd (omega arith)
got (y ∷ ys) zero x h b = ap Some (sym h)
got (y ∷ ys) (suc i) x h b = got ys i x h (omega arith)
