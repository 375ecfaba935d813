-- Sizes of products and sums.
use Rattle.std.proofs.Common.{◌≡◌, ◌<◌, ◌≤◌, ◌^◌, ◌*◌, ◌+◌, ◌-◌, ℕ, zero, suc, ℤ, pos, ◌*ℤ◌, ◌+ℤ◌, unsigned_abs, List, [], ◌∷◌, slice_index_or, mul-le-mul, le_of_lt, subst, sym, lit<, refl, ap, ◌∙◌, drop, get_or, length, add-one, drop-cons, FitsSigned, to_z, of_z, w64, arith}
use Rattle.std.specs.List.{AllByRecursion}
use Rattle.std.proofs.lemmas.Int.{unsigned_abs-mul, ints, to_z-of_z, fits_signed_from_abs}
use Rattle.std.specs.Int.{w128}
use Rattle.ground_model.specs.Truth.{pairs_value}
use Rattle.ground_model.specs.Answers.{value_at}
use Rattle.ground_model.specs.Sizes.{IsModest, IsSoundPair}

pub product_size : (a b : ℤ) → unsigned_abs a < 2 ^ 62 → unsigned_abs b < 2 ^ 30 → unsigned_abs (a *ℤ b) ≤ 2 ^ 92
product_size a b p q =
    subst (λ n. n ≤ 2 ^ 92) (sym (unsigned_abs-mul a b)) (mul-le-mul (le_of_lt p) (le_of_lt q))

pub sum_size : (a b : ℤ) (m n : ℕ) → unsigned_abs a ≤ m → unsigned_abs b ≤ n → unsigned_abs (a +ℤ b) ≤ m + n
sum_size a b m n p q = omega (arith, ints)

pub modest_at : (values : List ℤ) (place : ℕ) → AllByRecursion IsModest values → unsigned_abs (slice_index_or values place (pos 0)) < 2 ^ 30
modest_at [] place modest = lit< tt
modest_at (value ∷ rest) zero modest = modest.0
modest_at (value ∷ rest) (suc place) modest = modest_at rest place modest.1

pub term_size : (variables : ℕ) (pair : ℕ × ℤ) (values : List ℤ) → IsSoundPair variables pair → AllByRecursion IsModest values
    → unsigned_abs (pair.1 *ℤ value_at values pair.0) ≤ 2 ^ 92
term_size variables pair values sound modest = product_size pair.1 (value_at values pair.0) sound.small (modest_at values (pair.0 - 1) modest)

pub drop_next : {X : Type 0} (xs : List X) (i : ℕ) (d : X) → i < length xs → drop i xs ≡ get_or xs i d ∷ drop (i + 1) xs
drop_next xs i d below = rw (add-one, drop-cons xs i d) refl

pub record LinearStep (values : List ℤ) (items : List (ℕ × ℤ)) (i variables : ℕ) (total sum term : ℤ) : Type 0 where
  pub so_far : (sum +ℤ term) +ℤ pairs_value (value_at values) (drop (i + 1) items) ≡ total
  pub left : AllByRecursion (IsSoundPair variables) (drop (i + 1) items)
  pub size : unsigned_abs (sum +ℤ term) ≤ 2 ^ 62 + (i + 1) * 2 ^ 92

pub linear_step : (values : List ℤ) (items : List (ℕ × ℤ)) (i variables : ℕ) (d : ℕ × ℤ) (total sum term : ℤ) → i < length items
    → sum +ℤ pairs_value (value_at values) (drop i items) ≡ total
    → AllByRecursion (IsSoundPair variables) (drop i items)
    → AllByRecursion IsModest values
    → unsigned_abs sum ≤ 2 ^ 62 + i * 2 ^ 92
    → term ≡ to_z w64 (of_z w64 (get_or items i d).1) *ℤ value_at values (get_or items i d).0
    → LinearStep values items i variables total sum term
linear_step values items i variables d total sum term below so_far left modest size is =
    let next = drop_next items i d below in
    let left = rw next at left in
    let so_far = rw next at so_far in
    let pair : ℕ × ℤ = get_or items i d in
    let small = left.0.small in
    let fits : FitsSigned w64 pair.1 = fits_signed_from_abs w64 pair.1 (omega arith) in
    let is : term ≡ pair.1 *ℤ value_at values pair.0 = is ∙ ap (λ z. z *ℤ value_at values pair.0) (to_z-of_z w64 pair.1 fits) in
    let bound : unsigned_abs term ≤ 2 ^ 92 = subst (λ z. unsigned_abs z ≤ 2 ^ 92) (sym is) (term_size variables pair values left.0 modest) in
    let so_far : sum +ℤ (term +ℤ pairs_value (value_at values) (drop (i + 1) items)) ≡ total = rw is so_far in
    record {
      so_far = omega (arith, ints);
      left = left.1;
      size = omega (arith, ints);
    }

pub small_fits : (i : ℕ) (z : ℤ) → i ≤ 65536 → unsigned_abs z ≤ 2 ^ 62 + i * 2 ^ 92 → FitsSigned w128 z
small_fits i z few size = fits_signed_from_abs w128 z (omega arith)
