-- What the operations on 32 bits give, as the exact number that fits or over.
use Rattle.std.proofs.Common.{◌≡◌, ℕ, zero, suc, ℤ, to_z, of_z, pos, negsuc, ◌<◌, nat_lt, true, false, if◌then◌else◌, Option, Some, None, refl, sym, ap, ◌∙◌, FitsSigned, w32, int_div, int_rem, unsigned_abs, ◌≤◌, ◌+ℤ◌, ◌-ℤ◌, ◌*ℤ◌, arith}
use Rattle.std.proofs.lemmas.Bool.Decides.{nat_tests}
use Rattle.std.specs.Option.{SomeIff}
use Rattle.std.specs.Int.{CanDivide, IsNonZero}
use Rattle.std.proofs.lemmas.Int.{quot-rem, rem_below, ints, to_z-of_z, fits_signed_from_abs}
use Rattle.std.proofs.Math.IntN.{*ℤ_comm}
use Rattle.syntax_tree.specs.declared.amount.Amount.TheVariants.{Number, Undefined}
use Rattle.syntax_tree.specs.Arithmetic.{or_over, is_zero, fits, fitted}

below_end : (n : ℕ) → n < 2147483648 → nat_lt n 2147483648 ≡ true
below_end n l = grind (arith, nat_tests)

past_end : (n : ℕ) → (n < 2147483648 → ⊥) → nat_lt n 2147483648 ≡ false
past_end n l = grind (arith, nat_tests)

fits_yes : (z : ℤ) → FitsSigned w32 z → fits z ≡ true
fits_yes (pos n) h = below_end n (omega (arith, h))
fits_yes (negsuc n) h = below_end n (omega (arith, h))

fits_no : (z : ℤ) → (FitsSigned w32 z → ⊥) → fits z ≡ false
fits_no (pos n) h = past_end n (λ l. h (omega (arith, l)))
fits_no (negsuc n) h = past_end n (λ l. h (omega (arith, l)))

pub checked_fits : (r : Option ℤ) (z : ℤ) → SomeIff r (FitsSigned w32 z) z → or_over r ≡ fitted z
unfolding fitted
checked_fits (Some x) z h = let f = fits_yes z h.0 in rw (f, h.1) refl
checked_fits None z h = let f = fits_no z h in rw f refl

pub checked_quotient : (r : Option ℤ) (x y : ℤ) → SomeIff r (CanDivide w32 x y) (int_div x y) → IsNonZero w32 y → or_over r ≡ fitted (int_div x y)
unfolding fitted
checked_quotient (Some x) a b h nz = let f = fits_yes (int_div a b) h.0.1 in rw (f, h.1) refl
checked_quotient None a b h nz = let f = fits_no (int_div a b) (λ q. h (nz, q)) in rw f refl

non_zero : (b : ℤ) → IsNonZero w32 b → 0 < unsigned_abs b
non_zero (pos n) h = omega (arith, h)
non_zero (negsuc n) h = omega arith

least_distance : (b : ℤ) → FitsSigned w32 b → unsigned_abs b ≤ 2147483648
least_distance (pos n) h = omega (arith, h)
least_distance (negsuc n) h = omega (arith, h)

near_fits : (z : ℤ) → unsigned_abs z < 2147483648 → fits z ≡ true
near_fits (pos n) h = below_end n (omega (arith, h))
near_fits (negsuc n) h = below_end n (omega (arith, h))

rest_is : (whole part rest : ℤ) → part +ℤ rest ≡ whole → rest ≡ whole -ℤ part
rest_is whole part rest h = omega (arith, ints)

pub remainder_is : (a b : ℤ) → int_rem a b ≡ a -ℤ (b *ℤ int_div a b)
remainder_is a b = rest_is a (b *ℤ int_div a b) (int_rem a b) (ap (λ z. z +ℤ int_rem a b) (*ℤ_comm b (int_div a b)) ∙ quot-rem a b)

is_no_zero : (b : ℤ) → IsNonZero w32 b → is_zero b ≡ false
is_no_zero (pos zero) h = absurd (omega (arith, h))
is_no_zero (pos (suc n)) h = refl
is_no_zero (negsuc n) h = refl

pub remainder_gives : (a b r : ℤ) → FitsSigned w32 b → IsNonZero w32 b → r ≡ int_rem a b
    → Number (to_z w32 (of_z w32 r)) ≡ (if is_zero b then Undefined else fitted (a -ℤ (b *ℤ int_div a b)))
unfolding fitted
remainder_gives a b r f nz is =
    let exact : r ≡ a -ℤ (b *ℤ int_div a b) = is ∙ remainder_is a b in
    let below : unsigned_abs r < unsigned_abs b = omega (arith, ap unsigned_abs is, rem_below a b (non_zero b nz)) in
    let near : unsigned_abs r < 2147483648 = omega (arith, below, least_distance b f) in
    let same : to_z w32 (of_z w32 r) ≡ r = to_z-of_z w32 r (fits_signed_from_abs w32 r near) in
    let yes : fits (a -ℤ (b *ℤ int_div a b)) ≡ true = ap fits (sym exact) ∙ near_fits r near in
    let no : is_zero b ≡ false = is_no_zero b nz in
    rw (no, yes) (ap Number (same ∙ exact))
