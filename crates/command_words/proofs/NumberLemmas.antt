-- What the parts of a number's text come to.
use Rattle.std.proofs.Common.{rules, ◌≡◌, ◌&&◌, ◌<◌, ◌^◌, ℕ, pos, neg_ℤ, Bool, true, false, List, [], ◌∷◌, Some, None, Err, refl, ap, cond, length, eqb, arith, option_map}
use Rattle.std.specs.Char.{is_ascii_digit}
use Rattle.std.specs.List.{list_all}
use Rattle.std.specs.Prelude.{nat_le}
use Rattle.std.specs.Str.Parse.{digits_value, ParsesUnsigned}
use Rattle.std.proofs.lemmas.Bool.{and_parts, leb-true, eqb-true}
use Rattle.std.proofs.lemmas.Str.Parse.{IsDigitsTest, IsNumeralModel, numerals_by_value, parse_digits}
use Rattle.command_words.specs.Numbers.{is_decimal, number_within, integer_within}

digits_test : IsDigitsTest (λ ds. list_all is_ascii_digit ds ≡ true)
digits_test = search rules

own : IsNumeralModel (λ ds. list_all is_ascii_digit ds ≡ true) (digits_value 10)
own = numerals_by_value _ digits_test

decimal_digits : (text : List ℕ) → is_decimal text ≡ true → list_all is_ascii_digit text ≡ true
decimal_digits [] h = cc
decimal_digits (first ∷ rest) h = (and_parts _ _ h).0

decimal_long : (text : List ℕ) → is_decimal text ≡ true → 0 < length text
decimal_long [] h = cc
decimal_long (first ∷ rest) h = omega arith

-- a decimal text that is not parsed is above the range
pub not_parsed : (E : Type 0) (text : List ℕ) (low high : ℕ) (e : E) → ParsesUnsigned {E = E} 64 10 text (Err e) → is_decimal text ≡ true → high < 2 ^ 64
    → None ≡ number_within low high text
not_parsed E text low high e h decimal few =
    let above = parse_digits own {E = E} 64 text (Err e) h (decimal_digits text decimal) in
    go (nat_le (digits_value 10 text) high) refl (nat_le low (digits_value 10 text)) above
  where
    go : (b : Bool) → nat_le (digits_value 10 text) high ≡ b → (a : Bool) → ¬ ((0 < length text) × (digits_value 10 text < 2 ^ 64))
        → None ≡ cond (is_decimal text && (a && nat_le (digits_value 10 text) high)) (Some (digits_value 10 text)) None
    go true test a above =
        let small = leb-true (digits_value 10 text) high test in
        absurd (above (decimal_long text decimal, omega arith))
    go false test true above = rw (decimal, test) refl
    go false test false above = rw decimal refl

-- a text without a sign
pub unsigned_end : (most : ℕ) (text : List ℕ) → ((rest : List ℕ) → ¬ (text ≡ 45 ∷ rest)) → integer_within most text ≡ option_map (λ n. pos n) (number_within 0 most text)
unsigned_end most [] apart = refl
unsigned_end most (first ∷ rest) apart = go (eqb first 45) refl
  where
    go : (b : Bool) → eqb first 45 ≡ b
        → cond b (option_map (λ n. neg_ℤ (pos n)) (number_within 1 most rest)) (option_map (λ n. pos n) (number_within 0 most (first ∷ rest)))
        ≡ option_map (λ n. pos n) (number_within 0 most (first ∷ rest))
    go true e = absurd (apart rest (ap (λ (x : ℕ). x ∷ rest) (eqb-true first 45 e)))
    go false e = refl
