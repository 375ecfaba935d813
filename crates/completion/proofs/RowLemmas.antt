-- Rows of a table, one for each number of a range.
use Rattle.std.proofs.Common.{◌≡◌, ℕ, zero, suc, ◌+◌, ◌<◌, false, ◌==◌, List, [], ◌∷◌, ◌++◌, map, length, set, get_or, refl, sym, ◌∙◌, ap, ap₂, arith}
use Rattle.std.specs.List.{range_with_len}
use Rattle.std.proofs.lemmas.Bool.Decides.{nat_tests}
use Rattle.std.proofs.lemmas.List.FromFn.{length-map-range_with_len}
use Rattle.std.proofs.lemmas.List.{length-map}

pub plus_zero : (a : ℕ) → a ≡ a + 0
plus_zero a = omega arith

shift : (a n : ℕ) → (a + 1) + n ≡ a + suc n
shift a n = omega arith

pub range_end : (a n : ℕ) → range_with_len a (suc n) ≡ range_with_len a n ++ (a + n) ∷ []
range_end a zero = ap (λ k. k ∷ []) (plus_zero a)
range_end a (suc n) = ap (λ xs. a ∷ xs) (range_end (a + 1) n ∙ ap (λ k. range_with_len (a + 1) n ++ k ∷ []) (shift a n))

pub map_end : {X Y : Type 0} (f : X → Y) (xs : List X) (x : X) → map f (xs ++ x ∷ []) ≡ map f xs ++ f x ∷ []
map_end f [] x = refl
map_end f (y ∷ xs) x = ap (λ ys. f y ∷ ys) (map_end f xs x)

-- one more number has a row of its own
pub row_added : {V X : Type 0} (f : V → X) (g : ℕ → X) (rows : List V) (a n : ℕ) (v : V) → map f rows ≡ map g (range_with_len a n) → f v ≡ g (a + n)
    → map f (rows ++ v ∷ []) ≡ map g (range_with_len a (n + 1))
row_added f g rows a n v e p =
    map_end f rows v ∙ ap₂ (λ xs x. xs ++ x ∷ []) e p ∙ sym (map_end g (range_with_len a n) (a + n)) ∙ ap (map g) (sym (range_end a n)) ∙ ap (λ k. map g (range_with_len a k)) (one_more n)
  where
    one_more : (n : ℕ) → suc n ≡ n + 1
    one_more n = omega arith

pub rows_length : {V X : Type 0} (f : V → X) (g : ℕ → X) (rows : List V) (a n : ℕ) → map f rows ≡ map g (range_with_len a n) → length rows ≡ n
rows_length f g rows a n e = sym (length-map rows f) ∙ ap length e ∙ length-map-range_with_len g a n

pub get_row : {V X : Type 0} (f : V → X) (g : ℕ → X) (rows : List V) (a n j : ℕ) (d : V) → map f rows ≡ map g (range_with_len a n) → j < n → f (get_or rows j d) ≡ g (a + j)
get_row f g [] a zero j d e h = absurd (omega (arith, h))
get_row f g [] a (suc n) j d e h = absurd (none e)
  where
    none : {X : Type 0} {x : X} {xs : List X} → [] ≡ x ∷ xs → ⊥
    none p = cc
get_row f g (v ∷ rows) a zero j d e h = absurd (omega (arith, h))
get_row f g (v ∷ rows) a (suc n) zero d e h = first e ∙ ap g (plus_zero a)
  where
    first : {X : Type 0} {x y : X} {xs ys : List X} → x ∷ xs ≡ y ∷ ys → x ≡ y
    first p = cc
get_row f g (v ∷ rows) a (suc n) (suc j) d e h = get_row f g rows (a + 1) n j d (rest e) (omega (arith, h)) ∙ ap g (shift a j)
  where
    rest : {X : Type 0} {x y : X} {xs ys : List X} → x ∷ xs ≡ y ∷ ys → xs ≡ ys
    rest p = cc

-- rows that are new at one number k alone
module _ {X : Type 0} (old new : ℕ → X) (k : ℕ) (others : (y : ℕ) → (k == y) ≡ false → new y ≡ old y) where
  rows_same : (a n : ℕ) → k < a → map new (range_with_len a n) ≡ map old (range_with_len a n)
  rows_same a zero h = refl
  rows_same a (suc n) h = ap₂ ◌∷◌ (others a (differ k a h)) (rows_same (a + 1) n (omega (arith, h)))
    where
      differ : (y a : ℕ) → y < a → (y == a) ≡ false
      differ y a h = grind (arith, nat_tests, h)

  pub rows_set : (a n j : ℕ) → k ≡ a + j → j < n → map new (range_with_len a n) ≡ set (map old (range_with_len a n)) j (new k)
  rows_set a zero j e h = absurd (omega (arith, h))
  rows_set a (suc n) zero e h =
      let same : k ≡ a = omega (arith, e) in
      ap₂ ◌∷◌ (ap new (sym same)) (rows_same (a + 1) n (omega (arith, same)))
  rows_set a (suc n) (suc j) e h = ap₂ ◌∷◌ (others a (differ k a j e)) (rows_set (a + 1) n j (omega (arith, e)) (omega (arith, h)))
    where
      differ : (y a j : ℕ) → y ≡ a + suc j → (y == a) ≡ false
      differ y a j h = grind (arith, nat_tests, h)
