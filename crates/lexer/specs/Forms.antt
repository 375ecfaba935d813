-- The form of each kind of token.
use Rattle.std.specs.Prelude.{ℕ, Bool, true, false, ◌==◌, ◌||◌, ◌&&◌, nat_le, ◌^◌, if◌then◌else◌, not, List, [], ◌∷◌, codes}
use Rattle.std.specs.List.{list_all, list_any}
use Rattle.std.specs.Str.{bytes_eq}
use Rattle.std.specs.Str.Parse.{digits_value}
use Rattle.lexer.specs.declared.token.TokenKind.{TokenKind}
use Rattle.lexer.specs.declared.token.TokenKind.TheVariants.{Num, Id, Var, Anon, Text, NotWord, ConstWord, ShowWord, Mark}
use Rattle.lexer.specs.Bytes.{is_digit, is_lower, is_upper, is_name_byte, is_underscore, is_escape}

-- one digit or more
abbrev pub is_digits : List ℕ → Bool
is_digits [] = false
is_digits (byte ∷ rest) = is_digit byte && list_all is_digit rest

-- underscores, then a first letter, then name bytes
abbrev pub is_name : (ℕ → Bool) → List ℕ → Bool
is_name is_first [] = false
is_name is_first (byte ∷ rest) = (if is_underscore byte then is_name is_first rest else (is_first byte && list_all is_name_byte rest))

abbrev pub is_nothing : List ℕ → Bool
is_nothing [] = true
is_nothing (byte ∷ rest) = false

-- the inside of a string with its closing quote, all on one line; `escaped` where a backslash stands before
abbrev pub closes : List ℕ → Bool → Bool
closes [] escaped = false
closes (byte ∷ rest) true = is_escape byte && closes rest false
closes (byte ∷ rest) false = (if byte == 34 then is_nothing rest else (if byte == 10 then false else closes rest (byte == 92)))

-- a quote, and a string's inside with its closing quote
abbrev pub is_string : List ℕ → Bool
is_string [] = false
is_string (byte ∷ rest) = (byte == 34) && closes rest false

-- the marks of one byte
abbrev pub is_short_mark : ℕ → Bool
is_short_mark byte = list_any (λ mark. byte == mark) (codes ".,;:(){}+-*/\\@&=<>")

-- the marks of two bytes: `..`, `:-`, `!=`, `<=` and `>=`
abbrev pub is_long_mark : ℕ → ℕ → Bool
is_long_mark first second =
    ((first == 46) && (second == 46))
    || ((first == 58) && (second == 45))
    || ((first == 33) && (second == 61))
    || ((first == 60) && (second == 61))
    || ((first == 62) && (second == 61))

abbrev pub is_mark : List ℕ → Bool
is_mark [] = false
is_mark (byte ∷ []) = is_short_mark byte
is_mark (first ∷ second ∷ []) = is_long_mark first second
is_mark (first ∷ second ∷ third ∷ rest) = false

-- whether these bytes have the form of a token of this kind
abbrev pub has_form : TokenKind → List ℕ → Bool
has_form Num bytes = is_digits bytes
has_form Id bytes = is_name is_lower bytes && not (bytes_eq bytes (codes "not"))
has_form Var bytes = is_name is_upper bytes
has_form Anon bytes = bytes_eq bytes (codes "_")
has_form Text bytes = is_string bytes
has_form NotWord bytes = bytes_eq bytes (codes "not")
has_form ConstWord bytes = bytes_eq bytes (codes "#const")
has_form ShowWord bytes = bytes_eq bytes (codes "#show")
has_form Mark bytes = is_mark bytes

-- a zero that stands before another digit
abbrev pub is_zero_led : List ℕ → Bool
is_zero_led [] = false
is_zero_led (byte ∷ []) = false
is_zero_led (first ∷ second ∷ rest) = first == 48

-- a number above 2147483647
abbrev pub is_too_large : List ℕ → Bool
is_too_large digits = nat_le (2 ^ 31) (digits_value 10 digits)

-- whether a run of digits is a number
abbrev pub is_number : List ℕ → Bool
is_number digits = not (is_zero_led digits) && not (is_too_large digits)

-- whether a token of this form has a value: each but a run of digits that is no number
abbrev pub is_sound : TokenKind → List ℕ → Bool
is_sound Num bytes = is_number bytes
is_sound Id bytes = true
is_sound Var bytes = true
is_sound Anon bytes = true
is_sound Text bytes = true
is_sound NotWord bytes = true
is_sound ConstWord bytes = true
is_sound ShowWord bytes = true
is_sound Mark bytes = true
