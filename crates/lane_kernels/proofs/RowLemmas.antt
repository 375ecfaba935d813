-- A row that is joined with another up to some place, and left as it was from there on.
use Rattle.std.proofs.Common.{◌≡◌, ◌+◌, ◌≤◌, ◌<◌, ℕ, zero, suc, refl, ap, arith, List, [], ◌∷◌, length, get_or, set}
use Rattle.std.specs.Simd.Lanes.{zip2, chunk, put_chunk}

put_nothing : (xs : List ℕ) → put_chunk 0 xs [] ≡ xs
put_nothing [] = refl
put_nothing (x ∷ xs) = refl

put_zero : (a b c d w x y z : ℕ) (xs : List ℕ) → put_chunk 0 (w ∷ x ∷ y ∷ z ∷ xs) (a ∷ b ∷ c ∷ d ∷ []) ≡ a ∷ b ∷ c ∷ d ∷ xs
put_zero a b c d w x y z xs = ap (λ zs. a ∷ b ∷ c ∷ d ∷ zs) (put_nothing xs)

module _ (f : ℕ → ℕ → ℕ) where
  abbrev pub joined_to : ℕ → List ℕ → List ℕ → List ℕ
  joined_to zero xs ys = xs
  joined_to (suc i) [] ys = []
  joined_to (suc i) (x ∷ xs) [] = x ∷ xs
  joined_to (suc i) (x ∷ xs) (y ∷ ys) = f x y ∷ joined_to i xs ys

  -- joined to the end is joined
  pub joined_to_end : (i : ℕ) (xs ys : List ℕ) → i ≡ length xs → length xs ≡ length ys → joined_to i xs ys ≡ zip2 f xs ys
  joined_to_end zero [] ys e l = refl
  joined_to_end zero (x ∷ xs) ys e l = absurd (omega arith)
  joined_to_end (suc i) [] ys e l = absurd (omega arith)
  joined_to_end (suc i) (x ∷ xs) [] e l = absurd (omega arith)
  joined_to_end (suc i) (x ∷ xs) (y ∷ ys) e l = ap (λ zs. f x y ∷ zs) (joined_to_end i xs ys (omega arith) (omega arith))

  set_suc : (i : ℕ) (xs ys : List ℕ) → i < length xs → i < length ys
      → set (joined_to i xs ys) i (f (get_or (joined_to i xs ys) i 0) (get_or ys i 0)) ≡ joined_to (suc i) xs ys
  set_suc i [] ys l h = absurd (omega arith)
  set_suc i (x ∷ xs) [] l h = absurd (omega arith)
  set_suc zero (x ∷ xs) (y ∷ ys) l h = refl
  set_suc (suc i) (x ∷ xs) (y ∷ ys) l h = ap (λ zs. f x y ∷ zs) (set_suc i xs ys (omega arith) (omega arith))

  -- the next word of a row that is joined up to it
  pub set_joined : (row : List ℕ) (i : ℕ) (xs ys : List ℕ) → row ≡ joined_to i xs ys → i < length xs → i < length ys
      → set row i (f (get_or row i 0) (get_or ys i 0)) ≡ joined_to (i + 1) xs ys
  set_joined row i xs ys e l h =
      let next : i + 1 ≡ suc i = omega arith in
      rw (e, next) (set_suc i xs ys l h)

  put_suc : (i : ℕ) (xs ys : List ℕ) → i + 4 ≤ length xs → i + 4 ≤ length ys
      → put_chunk i (joined_to i xs ys) (zip2 f (chunk i 4 (joined_to i xs ys)) (chunk i 4 ys)) ≡ joined_to (suc (suc (suc (suc i)))) xs ys
  put_suc i [] ys l h = absurd (omega arith)
  put_suc zero (x0 ∷ []) ys l h = absurd (omega arith)
  put_suc zero (x0 ∷ x1 ∷ []) ys l h = absurd (omega arith)
  put_suc zero (x0 ∷ x1 ∷ x2 ∷ []) ys l h = absurd (omega arith)
  put_suc zero (x0 ∷ x1 ∷ x2 ∷ x3 ∷ xs) [] l h = absurd (omega arith)
  put_suc zero (x0 ∷ x1 ∷ x2 ∷ x3 ∷ xs) (y0 ∷ []) l h = absurd (omega arith)
  put_suc zero (x0 ∷ x1 ∷ x2 ∷ x3 ∷ xs) (y0 ∷ y1 ∷ []) l h = absurd (omega arith)
  put_suc zero (x0 ∷ x1 ∷ x2 ∷ x3 ∷ xs) (y0 ∷ y1 ∷ y2 ∷ []) l h = absurd (omega arith)
  put_suc zero (x0 ∷ x1 ∷ x2 ∷ x3 ∷ xs) (y0 ∷ y1 ∷ y2 ∷ y3 ∷ ys) l h = put_zero (f x0 y0) (f x1 y1) (f x2 y2) (f x3 y3) x0 x1 x2 x3 xs
  put_suc (suc i) (x ∷ xs) [] l h = absurd (omega arith)
  put_suc (suc i) (x ∷ xs) (y ∷ ys) l h = ap (λ zs. f x y ∷ zs) (put_suc i xs ys (omega arith) (omega arith))

  -- the next four words of a row that is joined up to them
  pub put_joined : (row : List ℕ) (i : ℕ) (xs ys : List ℕ) → row ≡ joined_to i xs ys → i + 4 ≤ length xs → i + 4 ≤ length ys
      → put_chunk i row (zip2 f (chunk i 4 row) (chunk i 4 ys)) ≡ joined_to (i + 4) xs ys
  put_joined row i xs ys e l h =
      let next : i + 4 ≡ suc (suc (suc (suc i))) = omega arith in
      rw (e, next) (put_suc i xs ys l h)
