-- Laws of tokens as words, of decimal digits and of what strings hold.
use Rattle.lexer.proofs.TokenLemmas.{each_token}
use Rattle.lexer.specs.Parts.{IsTokenisation}
use Rattle.lexer.specs.Forms.{is_digits, has_form, is_sound, is_number, is_zero_led}
use Rattle.lexer.specs.Bytes.{is_digit}
use Rattle.lexer.specs.declared.token.TokenKind.TheVariants.{Num, Id, Var, Anon, Text, NotWord, ConstWord, ShowWord, Mark}
use Rattle.lexer.specs.declared.token.TokenKind.{TokenKind}
use Rattle.std.proofs.lemmas.Bool.{and_parts, leb-true, leb-false}
use Rattle.std.proofs.Common.{◌≡◌, ℕ, zero, suc, ◌+◌, ◌-◌, ◌*◌, ◌<◌, ◌≤◌, true, false, ◌==◌, List, [], ◌∷◌, ◌++◌, map, length, drop, get_or, refl, sym, ◌∙◌, ap, append_assoc, arith, ◌^◌, ◌&&◌, not, nat_le, Bool}
use Rattle.std.specs.List.{AllByRecursion, list_all}
use Rattle.std.specs.Char.{digit_value}
use Rattle.std.specs.Str.Parse.{digits_value, digits_value_after}
use Rattle.std.proofs.lemmas.Str.{digit_value_digit}
use Rattle.std.proofs.lemmas.List.{at_drop_more, drop_more, drop-map, append-nil}
use Rattle.lexer.specs.Tokens.{token_bytes, IsTokenOf}
use Rattle.lexer.specs.declared.token.Token.{Token}
use Rattle.grammar.specs.Word.{Word, words_of, word_of, unquoted, escaped, numeral}
use Rattle.grammar.specs.declared.words.WordKind.{WordKind}
use Rattle.grammar.specs.Spelled.{bytes_at, no_token, word_by, IsSpelled, IsToken, AreTokens}

-- a fact of each item, at a place
pub at_place : {X : Type 0} (P : X → Type 0) (xs : List X) (i : ℕ) (d : X) → AllByRecursion P xs → i < length xs → P (get_or xs i d)
at_place P [] i d all within = absurd (omega (arith, within))
at_place P (x ∷ xs) zero d all within = all.0
at_place P (x ∷ xs) (suc i) d all within = at_place P xs i d all.1 (omega (arith, within))

pub any_default : {X : Type 0} (xs : List X) (i : ℕ) (d e : X) → i < length xs → get_or xs i d ≡ get_or xs i e
any_default [] i d e within = absurd (omega (arith, within))
any_default (x ∷ xs) zero d e within = refl
any_default (x ∷ xs) (suc i) d e within = any_default xs i d e (omega (arith, within))

-- the words from a place on
pub words_from : (text : List ℕ) (tokens : List Token) (at : ℕ) (d : Token) → at < length tokens
    → drop at (words_of text tokens) ≡ word_of (get_or tokens at d).kind (bytes_at text tokens at) ∷ drop (at + 1) (words_of text tokens)
words_from text tokens at d within =
    let word : Token → Word = λ token. word_of token.kind (token_bytes text token) in
    drop-map word at tokens ∙ ap (map word) (drop_more tokens at d within)
    ∙ ap (λ rest. word (get_or tokens at d) ∷ rest) (sym (drop-map word (at + 1) tokens))
    ∙ ap (λ token. word_of (get_or tokens at d).kind (token_bytes text token) ∷ drop (at + 1) (words_of text tokens)) (any_default tokens at d no_token within)

-- digits behind a number make no less of it
pub digits_grow : (n : ℕ) (digits : List ℕ) → n ≤ digits_value_after 10 n digits
digits_grow n [] = omega arith
digits_grow n (digit ∷ digits) = omega (arith, digits_grow (n * 10 + digit_value digit) digits)

-- one digit more of a number that digits write
digit_more : (n i d : ℕ) (digits : List ℕ) → i < length digits → digits_value_after 10 n (drop i digits) ≡ digits_value_after 10 (n * 10 + digit_value (get_or digits i d)) (drop (i + 1) digits)
digit_more n i d digits within = at_drop_more (digits_value_after 10 n) digits i d within

digit_is : (i d : ℕ) (digits : List ℕ) → AllByRecursion (λ byte. (48 ≤ byte) × (byte ≤ 57)) digits → i < length digits → digit_value (get_or digits i d) + 48 ≡ get_or digits i d
digit_is i d digits all within =
    let in_range = at_place (λ byte. (48 ≤ byte) × (byte ≤ 57)) digits i d all within in
    digit_value_digit (get_or digits i d) in_range

pub digit_step : (n i d : ℕ) (digits : List ℕ) (value : ℕ) → AllByRecursion (λ byte. (48 ≤ byte) × (byte ≤ 57)) digits → i < length digits → digits_value_after 10 n (drop i digits) ≡ value
    → n * 10 + (get_or digits i d - 48) ≤ value
digit_step n i d digits value all within so_far =
    omega (arith, digit_more n i d digits within, digit_is i d digits all within, so_far, digits_grow (n * 10 + digit_value (get_or digits i d)) (drop (i + 1) digits))

pub digit_next : (n i d : ℕ) (digits : List ℕ) (value : ℕ) → AllByRecursion (λ byte. (48 ≤ byte) × (byte ≤ 57)) digits → i < length digits → digits_value_after 10 n (drop i digits) ≡ value
    → digits_value_after 10 (n * 10 + (get_or digits i d - 48)) (drop (i + 1) digits) ≡ value
digit_next n i d digits value all within so_far =
    let e : digit_value (get_or digits i d) ≡ get_or digits i d - 48 = omega (arith, digit_is i d digits all within) in
    sym (ap (λ v. digits_value_after 10 (n * 10 + v) (drop (i + 1) digits)) e) ∙ sym (digit_more n i d digits within) ∙ so_far

-- one byte more of a string
pub escape_more : (i d : ℕ) (bytes content : List ℕ) (value : List ℕ) → i < length bytes → content ++ unquoted (drop i bytes) true ≡ value
    → (content ++ escaped (get_or bytes i d) ∷ []) ++ unquoted (drop (i + 1) bytes) false ≡ value
escape_more i d bytes content value within so_far =
    append_assoc content (escaped (get_or bytes i d) ∷ []) (unquoted (drop (i + 1) bytes) false) ∙ ap (λ z. content ++ z) (sym (ap (λ z. unquoted z true) (drop_more bytes i d within))) ∙ so_far

plain_step : (byte : ℕ) (rest : List ℕ) → (byte == 34) ≡ false → (byte == 92) ≡ false → unquoted (byte ∷ rest) false ≡ byte ∷ unquoted rest false
plain_step byte rest h g = rw (h, g) refl

slash_step : (byte : ℕ) (rest : List ℕ) → (byte == 34) ≡ false → (byte == 92) ≡ true → unquoted (byte ∷ rest) false ≡ unquoted rest true
slash_step byte rest h g = rw (h, g) refl

quote_step : (byte : ℕ) (rest : List ℕ) → (byte == 34) ≡ true → unquoted (byte ∷ rest) false ≡ []
quote_step byte rest h = rw h refl

pub plain_more : (i d : ℕ) (bytes content : List ℕ) (value : List ℕ) → i < length bytes → (get_or bytes i d == 34) ≡ false → (get_or bytes i d == 92) ≡ false
    → content ++ unquoted (drop i bytes) false ≡ value → (content ++ get_or bytes i d ∷ []) ++ unquoted (drop (i + 1) bytes) false ≡ value
plain_more i d bytes content value within h g so_far =
    append_assoc content (get_or bytes i d ∷ []) (unquoted (drop (i + 1) bytes) false)
    ∙ ap (λ z. content ++ z) (sym (ap (λ z. unquoted z false) (drop_more bytes i d within) ∙ plain_step (get_or bytes i d) (drop (i + 1) bytes) h g)) ∙ so_far

pub slash_more : (i d : ℕ) (bytes content : List ℕ) (value : List ℕ) → i < length bytes → (get_or bytes i d == 34) ≡ false → (get_or bytes i d == 92) ≡ true
    → content ++ unquoted (drop i bytes) false ≡ value → content ++ unquoted (drop (i + 1) bytes) true ≡ value
slash_more i d bytes content value within h g so_far =
    ap (λ z. content ++ z) (sym (ap (λ z. unquoted z false) (drop_more bytes i d within) ∙ slash_step (get_or bytes i d) (drop (i + 1) bytes) h g)) ∙ so_far

pub quote_ends : (i d : ℕ) (bytes content : List ℕ) (value : List ℕ) → i < length bytes → (get_or bytes i d == 34) ≡ true
    → content ++ unquoted (drop i bytes) false ≡ value → content ≡ value
quote_ends i d bytes content value within h so_far =
    sym (append-nil content) ∙ ap (λ z. content ++ z) (sym (ap (λ z. unquoted z false) (drop_more bytes i d within) ∙ quote_step (get_or bytes i d) (drop (i + 1) bytes) h)) ∙ so_far

pub word_here : (text : List ℕ) (tokens : List Token) (at : ℕ) (d : Token) (kind : WordKind) (bytes : List ℕ) → at < length tokens → bytes ≡ bytes_at text tokens at
    → word_by kind bytes ≡ word_of (get_or tokens at d).kind bytes → drop at (words_of text tokens) ≡ word_by kind (bytes_at text tokens at) ∷ drop (at + 1) (words_of text tokens)
word_here text tokens at d kind bytes within same is_kind =
    words_from text tokens at d within
    ∙ ap (λ word. word ∷ drop (at + 1) (words_of text tokens)) (ap (word_of (get_or tokens at d).kind) (sym same) ∙ sym is_kind ∙ ap (word_by kind) same)

-- a word that is a number is spelled with its digits
pub digits_there : (text : List ℕ) (tokens : List Token) (at v : ℕ) (rest : List Word) → AreTokens text tokens → at < length tokens → drop at (words_of text tokens) ≡ numeral v ∷ rest
    → IsSpelled Num (bytes_at text tokens at)
digits_there text tokens at v rest lie within word =
    by (get_or tokens at no_token).kind (at_place (IsToken text) tokens at no_token lie within).spelled (sym (words_from text tokens at no_token within) ∙ word)
  where
    by : (kind : TokenKind) → IsSpelled kind (bytes_at text tokens at) → word_of kind (bytes_at text tokens at) ∷ drop (at + 1) (words_of text tokens) ≡ numeral v ∷ rest → IsSpelled Num (bytes_at text tokens at)
    by Num s e = s
    by Id s e = absurd cc
    by Var s e = absurd cc
    by Anon s e = absurd cc
    by Text s e = absurd cc
    by NotWord s e = absurd cc
    by ConstWord s e = absurd cc
    by ShowWord s e = absurd cc
    by Mark s e = absurd cc

-- the tokens of a text lie in it
digit_range : (byte : ℕ) → is_digit byte ≡ true → (48 ≤ byte) × (byte ≤ 57)
digit_range byte h = let p = and_parts (nat_le 48 byte) (nat_le byte 57) h in (leb-true 48 byte p.0, leb-true byte 57 p.1)

all_digits : (bytes : List ℕ) → list_all is_digit bytes ≡ true → AllByRecursion (λ byte. (48 ≤ byte) × (byte ≤ 57)) bytes
all_digits [] h = tt
all_digits (byte ∷ bytes) h = let p = and_parts (is_digit byte) (list_all is_digit bytes) h in (digit_range byte p.0, all_digits bytes p.1)

digits_spelled : (bytes : List ℕ) → is_digits bytes ≡ true → AllByRecursion (λ byte. (48 ≤ byte) × (byte ≤ 57)) bytes
digits_spelled [] h = absurd cc
digits_spelled (byte ∷ bytes) h = let p = and_parts (is_digit byte) (list_all is_digit bytes) h in (digit_range byte p.0, all_digits bytes p.1)

small : (bytes : List ℕ) → is_number bytes ≡ true → digits_value 10 bytes < 2 ^ 31
small bytes h = by (is_zero_led bytes) (nat_le (2 ^ 31) (digits_value 10 bytes)) refl h
  where
    by : (a b : Bool) → nat_le (2 ^ 31) (digits_value 10 bytes) ≡ b → (not a && not b) ≡ true → digits_value 10 bytes < 2 ^ 31
    by true b q h = absurd cc
    by false true q h = absurd cc
    by false false q h = leb-false (2 ^ 31) (digits_value 10 bytes) q

spelled : (kind : TokenKind) (bytes : List ℕ) → has_form kind bytes ≡ true → is_sound kind bytes ≡ true → IsSpelled kind bytes
spelled Num bytes h g = (digits_spelled bytes h, small bytes g)
spelled Id bytes h g = tt
spelled Var bytes h g = tt
spelled Anon bytes h g = tt
spelled Text bytes h g = tt
spelled NotWord bytes h g = tt
spelled ConstWord bytes h g = tt
spelled ShowWord bytes h g = tt
spelled Mark bytes h g = tt

each_lies : (text : List ℕ) (tokens : List Token) → AllByRecursion (IsTokenOf text) tokens → AreTokens text tokens
each_lies text [] h = tt
each_lies text (token ∷ tokens) h = (
  record { ordered = omega (arith, h.0.some); within = h.0.within; spelled = spelled token.kind (token_bytes text token) h.0.form h.0.sound },
  each_lies text tokens h.1,
)

pub tokens_lie : (text : List ℕ) (tokens : List Token) → IsTokenisation text tokens → AreTokens text tokens
tokens_lie text tokens h = each_lies text tokens (each_token text tokens h.parted)
