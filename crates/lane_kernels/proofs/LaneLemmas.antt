-- Lanes of two comparisons: what their joined mask picks.
use Rattle.std.proofs.Common.{◌≡◌, ◌&&◌, ◌≤◌, ◌+ℤ◌, ℕ, ℤ, pos, negsuc, Bool, true, false, int_le, refl, cond, bit_and, arith}
use Rattle.std.specs.Int.Signed.{lt_z}
use Rattle.std.proofs.lemmas.Bool.Decides.{nat_tests}
use Rattle.std.proofs.lemmas.Int.{ints}
use lib.Lanes.{top}

-- a lane of 64 set bits where the comparison holds
abbrev pub lane : Bool → ℕ
lane holds = cond holds 18446744073709551615 0

abbrev pub hit : Bool → ℕ
hit holds = cond holds 1 0

-- the top bit of two joined lanes
pub top-lanes : (p q : Bool) → top 63 (bit_and (lane p) (lane q)) ≡ (p && q)
top-lanes true true = refl
top-lanes true false = refl
top-lanes false true = refl
top-lanes false false = refl

pub hit-most : (p : Bool) → hit p ≤ 1
hit-most true = omega arith
hit-most false = omega arith

-- what is after a number is at least the next
pub after_as_least : (x y : ℤ) → lt_z x y ≡ int_le (x +ℤ pos 1) y
after_as_least (pos m) (pos n) = grind (arith, nat_tests, ints)
after_as_least (pos m) (negsuc n) = grind (arith, nat_tests, ints)
after_as_least (negsuc m) (pos n) = grind (arith, nat_tests, ints)
after_as_least (negsuc m) (negsuc n) = grind (arith, nat_tests, ints)
