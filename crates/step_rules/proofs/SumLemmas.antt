-- Sums under bounds.
use Rattle.std.proofs.Common.{◌≡◌, ◌≤◌, ◌^◌, ℕ, false, ℤ, pos, negsuc, ◌*ℤ◌, unsigned_abs, int_lt, if◌then◌else◌, refl, sym, subst, mul-le-mul, FitsSigned, w32, w64, arith}
use Rattle.std.proofs.lemmas.Bool.Decides.{nat_tests}
use Rattle.std.proofs.lemmas.Int.{unsigned_abs-mul, ints}
use Rattle.linear_normal.specs.Bounds.{least_times, greatest_times}

pub product_size : (a b : ℤ) → FitsSigned w64 a → FitsSigned w32 b → unsigned_abs (a *ℤ b) ≤ 2 ^ 94
product_size a b p q = subst (λ n. n ≤ 2 ^ 94) (sym (unsigned_abs-mul a b)) (mul-le-mul (size64 a p) (size32 b q))
  where
    size64 : (z : ℤ) → FitsSigned w64 z → unsigned_abs z ≤ 2 ^ 63
    size64 z p = let bound = p.sfits in omega (arith, ints)

    size32 : (z : ℤ) → FitsSigned w32 z → unsigned_abs z ≤ 2 ^ 31
    size32 z p = let bound = p.sfits in omega (arith, ints)

not_below : (n : ℕ) → int_lt (pos n) (pos 0) ≡ false
not_below n = grind (arith, nat_tests, ints)

pub least_by_sign : (c low high : ℤ) → least_times c low high ≡ (if int_lt c (pos 0) then c *ℤ high else c *ℤ low)
least_by_sign (pos n) low high = rw (not_below n) refl
least_by_sign (negsuc n) low high = refl

pub greatest_by_sign : (c low high : ℤ) → greatest_times c low high ≡ (if int_lt c (pos 0) then c *ℤ low else c *ℤ high)
greatest_by_sign (pos n) low high = rw (not_below n) refl
greatest_by_sign (negsuc n) low high = refl
