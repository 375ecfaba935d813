-- Numbers and their digits: a number has its digits' value, and the digits of a number that is read are those it is written with.
use Rattle.std.proofs.Common.{◌≡◌, ℕ, zero, suc, ◌+◌, ◌*◌, ◌/◌, ◌%◌, ◌^◌, ◌<◌, ◌≤◌, true, false, not, ◌==◌, nat_le, List, [], ◌∷◌, length, get_or, decimal, refl, sym, ◌∙◌, ap, subst, inl, inr, arith, if◌then◌else◌, pow-suc}
use Rattle.std.proofs.Math.Nat.{one-le-pow}
use Rattle.std.specs.List.{list_all}
use Rattle.std.specs.Char.{digit_value}
use Rattle.std.specs.Fmt.{digits, digits_onto, digit_glyph}
use Rattle.std.specs.Str.Parse.{AllDigits, digits_value, digits_value_after}
use Rattle.std.proofs.lemmas.Bool.{and_parts, not-true, cases_lt, ne_eqb, eq-eqb, leb-true, leb-false}
use Rattle.std.proofs.lemmas.Str.{digit_value_digit}
use Rattle.std.proofs.lemmas.Fmt.{decimal_is_IsNumeral_wide, decimal-digits_value}
use Rattle.lexer.specs.Bytes.{is_digit}
use Rattle.lexer.specs.Forms.{is_digits, is_number, is_zero_led, is_too_large}

digit_range : (byte : ℕ) → is_digit byte ≡ true → (48 ≤ byte) × (byte ≤ 57)
digit_range byte h = let p = and_parts (nat_le 48 byte) (nat_le byte 57) h in (leb-true 48 byte p.0, leb-true byte 57 p.1)

digit_small : (byte : ℕ) → is_digit byte ≡ true → digit_value byte < 10
digit_small byte h = let r = digit_range byte h in omega (arith, digit_value_digit byte r)

all_digits : (bytes : List ℕ) → list_all is_digit bytes ≡ true → AllDigits 10 bytes
all_digits [] h = tt
all_digits (byte ∷ bytes) h = let p = and_parts (is_digit byte) (list_all is_digit bytes) h in (digit_small byte p.0, all_digits bytes p.1)

some_digits : (bytes : List ℕ) → is_digits bytes ≡ true → (0 < length bytes) × AllDigits 10 bytes
some_digits [] h = absurd cc
some_digits (byte ∷ bytes) h = (omega arith, all_digits (byte ∷ bytes) h)

number_parts : (bytes : List ℕ) → is_number bytes ≡ true → (is_zero_led bytes ≡ false) × (digits_value 10 bytes < 2 ^ 31)
number_parts bytes h =
    let p = and_parts (not (is_zero_led bytes)) (not (is_too_large bytes)) h in
    (not-true (is_zero_led bytes) p.0, leb-false (2 ^ 31) (digits_value 10 bytes) (not-true (is_too_large bytes) p.1))

zero_alone : (bytes : List ℕ) → is_zero_led bytes ≡ false → 0 < length bytes → get_or bytes 0 0 ≡ 48 → length bytes ≡ 1
zero_alone [] h some first = absurd (omega arith)
zero_alone (byte ∷ []) h some first = refl
zero_alone (byte ∷ next ∷ bytes) h some first = let e : (byte == 48) ≡ true = eq-eqb byte 48 first in let no : true ≡ false = sym e ∙ h in absurd cc

-- a number's value is written with its digits
pub number_digits : (bytes : List ℕ) → is_digits bytes ≡ true → is_number bytes ≡ true → decimal (digits_value 10 bytes) ≡ bytes
number_digits bytes h g =
    let d = some_digits bytes h in
    let n = number_parts bytes g in
    decimal-digits_value (record { to = λ ds all. all; from = λ ds all. all; same = λ ds all. refl }) bytes d.1 d.0 (zero_alone bytes n.0 d.0) (omega (arith, n.1))

-- ---- a number with more digits than are written is none that is read
cut_digits : (k n : ℕ) (behind : List ℕ) → 10 ^ k ≤ n → length (digits_onto k 10 false n behind) ≡ k + length behind
cut_digits zero n behind large = omega arith
cut_digits (suc k) n behind large =
    let power : 10 ^ suc k ≡ 10 ^ k * 10 = pow-suc 10 k in
    let some : 0 < 10 ^ k = one-le-pow k 10 (omega arith) in
    let more : (n / 10 == 0) ≡ false = ne_eqb (n / 10) 0 (λ e. omega (arith, e, power, some, large)) in
    let next : List ℕ = digit_glyph false (n % 10) ∷ behind in
    ap (λ b. length (if b then next else digits_onto k 10 false (n / 10) next)) more ∙ cut_digits k (n / 10) next (omega (arith, power, large)) ∙ omega arith

decimal_is : (n : ℕ) → digits_onto 64 10 false n [] ≡ decimal n
unfolding digits
decimal_is n = refl

decimal_cut : (n : ℕ) → 10 ^ 64 ≤ n → length (decimal n) ≡ 64
decimal_cut n large = ap length (sym (decimal_is n)) ∙ cut_digits 64 n [] large

weighs : (n : ℕ) (ds : List ℕ) → n * 10 ^ length ds ≤ digits_value_after 10 n ds
weighs n [] = omega arith
weighs n (digit ∷ ds) = omega (arith, weighs (n * 10 + digit_value digit) ds, ap (λ x. n * x) (pow-suc 10 (length ds)))

too_long : (bytes : List ℕ) → is_digits bytes ≡ true → is_number bytes ≡ true → length bytes ≡ 64 → ⊥
too_long [] h g long = omega arith
too_long (byte ∷ []) h g long = omega arith
too_long (byte ∷ next ∷ bytes) h g long =
    let n = number_parts (byte ∷ next ∷ bytes) g in
    let r = digit_range byte (and_parts (is_digit byte) (list_all is_digit (next ∷ bytes)) h).0 in
    let no_zero : byte ≡ 48 → ⊥ = λ e. let led : (byte == 48) ≡ true = eq-eqb byte 48 e in let clash : true ≡ false = sym led ∙ n.0 in absurd cc in
    let first : 1 ≤ 0 * 10 + digit_value byte = omega (arith, digit_value_digit byte r, no_zero) in
    let rest : length (next ∷ bytes) ≡ 63 = omega (arith, long) in
    let value : (0 * 10 + digit_value byte) * 10 ^ 63 ≤ digits_value 10 (byte ∷ next ∷ bytes) =
    subst (λ k. (0 * 10 + digit_value byte) * 10 ^ k ≤ digits_value 10 (byte ∷ next ∷ bytes)) rest (weighs (0 * 10 + digit_value byte) (next ∷ bytes)) in
    omega (arith, value, n.1, first)

-- a number whose digits are read has their value
pub decimal_back : (n : ℕ) → is_digits (decimal n) ≡ true → is_number (decimal n) ≡ true → digits_value 10 (decimal n) ≡ n
decimal_back n h g =
    elim (cases_lt n (10 ^ 64)) [
      | inl small ↦ (decimal_is_IsNumeral_wide n small).1
      | inr large ↦ absurd (too_long (decimal n) h g (decimal_cut n large))
    ]
