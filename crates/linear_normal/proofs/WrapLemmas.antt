-- Numbers between -2^62 and 2^62 fit an i64, and so do their opposites, less one.
use Rattle.std.proofs.Common.{◌≡◌, ◌<◌, ◌^◌, ℤ, pos, ◌-ℤ◌, neg_ℤ, unsigned_abs, to_z, of_z, w64, ◌∙◌, ap, arith}
use Rattle.std.proofs.lemmas.Int.{ints, to_z-of_z, fits_signed_from_abs}

wrapped : (k : ℤ) → unsigned_abs k < 2 ^ 63 → to_z w64 (of_z w64 k) ≡ k
wrapped k h = to_z-of_z w64 k (fits_signed_from_abs w64 k (omega (arith, h)))

small_wrapped : (k : ℤ) → unsigned_abs k < 2 ^ 62 → unsigned_abs k < 2 ^ 63
small_wrapped k h = omega (arith, h)

less_small : (k : ℤ) → unsigned_abs k < 2 ^ 62 → unsigned_abs (k -ℤ pos 1) < 2 ^ 63
less_small k h = omega (arith, ints, h)

opposite_small : (k : ℤ) → unsigned_abs k < 2 ^ 62 → unsigned_abs (neg_ℤ k) < 2 ^ 62
opposite_small k h = omega (arith, ints, h)

from_zero : (k : ℤ) → pos 0 -ℤ k ≡ neg_ℤ k
from_zero k = omega (arith, ints)

module _ (k : ℤ) (small : unsigned_abs k < 2 ^ 62) where
  pub same_number : to_z w64 (of_z w64 k) ≡ k
  same_number = wrapped k (small_wrapped k small)

  pub less_number : to_z w64 (of_z w64 (to_z w64 (of_z w64 k) -ℤ pos 1)) ≡ k -ℤ pos 1
  less_number = ap (λ z. to_z w64 (of_z w64 (z -ℤ pos 1))) same_number ∙ wrapped (k -ℤ pos 1) (less_small k small)

  pub opposite_number : to_z w64 (of_z w64 (pos 0 -ℤ to_z w64 (of_z w64 k))) ≡ neg_ℤ k
  opposite_number =
      ap (λ z. to_z w64 (of_z w64 (pos 0 -ℤ z))) same_number ∙ ap (λ z. to_z w64 (of_z w64 z)) (from_zero k) ∙ wrapped (neg_ℤ k) (small_wrapped (neg_ℤ k) (opposite_small k small))

  pub opposite_less : to_z w64 (of_z w64 (to_z w64 (of_z w64 (pos 0 -ℤ to_z w64 (of_z w64 k))) -ℤ pos 1)) ≡ neg_ℤ k -ℤ pos 1
  opposite_less = ap (λ z. to_z w64 (of_z w64 (z -ℤ pos 1))) opposite_number ∙ wrapped (neg_ℤ k -ℤ pos 1) (less_small (neg_ℤ k) (opposite_small k small))
