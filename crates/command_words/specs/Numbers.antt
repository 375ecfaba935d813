-- Numbers as words write them.
use Rattle.std.specs.Prelude.{ℕ, ℤ, pos, neg_ℤ, List, [], ◌∷◌, Bool, false, not, ◌==◌, ◌&&◌, ◌||◌, nat_le, length, Option, Some, None, option_map, if◌then◌else◌}
use Rattle.std.specs.Char.{is_ascii_digit}
use Rattle.std.specs.List.{list_all}
use Rattle.std.specs.Str.Parse.{digits_value}

-- decimal digits, with no leading zero but in `0` itself
abbrev pub is_decimal : List ℕ → Bool
is_decimal [] = false
is_decimal (first ∷ rest) = list_all is_ascii_digit (first ∷ rest) && (not (first == 48) || (length rest == 0))

-- the number that the text writes, where it is one from low to high
abbrev pub number_within : ℕ → ℕ → List ℕ → Option ℕ
number_within low high text =
    if is_decimal text && (nat_le low (digits_value 10 text) && nat_le (digits_value 10 text) high)
    then Some (digits_value 10 text) else None

-- the integer that the text writes, where it is one from -most to most; zero is not written `-0`
abbrev pub integer_within : ℕ → List ℕ → Option ℤ
integer_within most [] = None
integer_within most (first ∷ rest) =
    if first == 45 then option_map (λ n. neg_ℤ (pos n)) (number_within 1 most rest)
    else option_map (λ n. pos n) (number_within 0 most (first ∷ rest))
