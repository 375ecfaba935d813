-- What a caller may use of a token of a text: the bytes of a name, the value of a number, the inside of a string.
use Rattle.std.proofs.Common.{sym, get_or, Bool, ◌≡◌, ℕ, zero, suc, ◌<◌, ◌^◌, true, false, not, List, [], ◌∷◌, subst, arith, ◌+◌, ◌-◌, length, drop, ap, ◌∙◌, inl, inr}
use Rattle.std.specs.List.{list_all}
use Rattle.std.specs.Str.{IsUtf8, IsAscii}
use Rattle.std.specs.Str.Parse.{digits_value}
use Rattle.std.proofs.lemmas.Str.{IsUtf8-from_ascii, IsUtf8-between, IsCharBoundary-after_ascii, IsCharBoundary-before_ascii}
use Rattle.std.proofs.lemmas.Bool.{and_parts, not-true, leb-false, cases_Bool, eqb-true}
use Rattle.std.proofs.lemmas.List.{get_or-take, get_or-drop, length-take, length-drop}
use Rattle.std.specs.Prelude.{slice_range}
use Rattle.std.specs.Bool.{◌==◌}
use Rattle.lexer.specs.declared.token.TokenKind.{TokenKind}
use Rattle.lexer.specs.declared.token.TokenKind.TheVariants.{Num, Id, Var, Text}
use Rattle.lexer.specs.declared.token.Token.{Token}
use Rattle.lexer.specs.Bytes.{is_lower, is_upper, is_name_byte, is_escape}
use Rattle.lexer.specs.Forms.{has_form, is_name, is_digits, is_zero_led, is_too_large, is_number, is_sound, is_string, closes, is_nothing}
use Rattle.lexer.specs.Tokens.{IsTokenOf, token_bytes}
use Rattle.lexer.proofs.ByteLemmas.{name_from_lower, name_from_upper, name_below}
use Rattle.lexer.proofs.FormLemmas.{name_all, id_name}

form_at : (kind : TokenKind) (text : List ℕ) (token : Token) → IsTokenOf text token → token.kind ≡ kind → has_form kind (token_bytes text token) ≡ true
form_at kind text token is e =
    let F : TokenKind → Type 0 = λ k. has_form k (token_bytes text token) ≡ true in
    subst F e is.form

-- an identifier: underscores, a small letter, name bytes
pub id_bytes : (text : List ℕ) (token : Token) → IsTokenOf text token → token.kind ≡ Id → is_name is_lower (token_bytes text token) ≡ true
id_bytes text token is e = id_name (token_bytes text token) (form_at Id text token is e)

-- a variable: underscores, a large letter, name bytes
pub var_bytes : (text : List ℕ) (token : Token) → IsTokenOf text token → token.kind ≡ Var → is_name is_upper (token_bytes text token) ≡ true
var_bytes text token is e = form_at Var text token is e

-- the bytes of a name are name bytes
pub name_bytes : (bytes : List ℕ) → is_name is_lower bytes ≡ true → list_all is_name_byte bytes ≡ true
name_bytes bytes h = name_all is_lower bytes name_from_lower h

pub var_name_bytes : (bytes : List ℕ) → is_name is_upper bytes ≡ true → list_all is_name_byte bytes ≡ true
var_name_bytes bytes h = name_all is_upper bytes name_from_upper h

-- and so ASCII
pub name_ascii : (bytes : List ℕ) → list_all is_name_byte bytes ≡ true → IsAscii bytes
name_ascii [] h i = omega arith
name_ascii (b ∷ bs) h zero = name_below b (and_parts (is_name_byte b) (list_all is_name_byte bs) h).0
name_ascii (b ∷ bs) h (suc i) = name_ascii bs (and_parts (is_name_byte b) (list_all is_name_byte bs) h).1 i

pub name_utf8 : (bytes : List ℕ) → list_all is_name_byte bytes ≡ true → IsUtf8 bytes
name_utf8 bytes h = IsUtf8-from_ascii bytes (name_ascii bytes h)

-- a number: digits with no leading zero, at most 2147483647
pub record IsNumber (bytes : List ℕ) : Type 0 where
  pub digits : is_digits bytes ≡ true
  pub leads : is_zero_led bytes ≡ false
  pub fits : digits_value 10 bytes < 2 ^ 31

pub num_bytes : (text : List ℕ) (token : Token) → IsTokenOf text token → token.kind ≡ Num → IsNumber (token_bytes text token)
num_bytes text token is e =
    let bytes : List ℕ = token_bytes text token in
    let S : TokenKind → Type 0 = λ k. is_sound k bytes ≡ true in
    let sound : is_number bytes ≡ true = subst S e is.sound in
    let parts = and_parts (not (is_zero_led bytes)) (not (is_too_large bytes)) sound in
    record {
      digits = form_at Num text token is e;
      leads = not-true (is_zero_led bytes) parts.0;
      fits = leb-false (2 ^ 31) (digits_value 10 bytes) (not-true (is_too_large bytes) parts.1);
    }

last_behind : (b : ℕ) (r : List ℕ) → (0 < length r) × (get_or r (length r - 1) 0 ≡ 34) → (0 < length (b ∷ r)) × (get_or (b ∷ r) (length (b ∷ r) - 1) 0 ≡ 34)
last_behind b r (some, last) =
    let e : length (b ∷ r) - 1 ≡ suc (length r - 1) = omega arith in
    (omega arith, ap (λ n. get_or (b ∷ r) n 0) e ∙ last)

last_alone : (b : ℕ) (r : List ℕ) → b ≡ 34 → is_nothing r ≡ true → get_or (b ∷ r) (length (b ∷ r) - 1) 0 ≡ 34
last_alone b [] q h = q
last_alone b (c ∷ r) q h = cc

-- the last byte of what closes is a quote
closes_last : (xs : List ℕ) (escaped : Bool) → closes xs escaped ≡ true → (0 < length xs) × (get_or xs (length xs - 1) 0 ≡ 34)
closes_last [] escaped h = cc
closes_last (b ∷ r) true h = last_behind b r (closes_last r false (and_parts (is_escape b) (closes r false) h).1)
closes_last (b ∷ r) false h =
    elim (cases_Bool (b == 34)) [
      | inl quote ↦ (omega arith, last_alone b r (eqb-true b 34 quote) (rw quote at h))
      | inr other ↦
          elim (cases_Bool (b == 10)) [
            | inl feed ↦ let e : false ≡ true = rw (other, feed) at h in cc
            | inr inside ↦
                let inner : closes r (b == 92) ≡ true = rw (other, inside) at h in
                last_behind b r (closes_last r (b == 92) inner)
          ]
    ]

-- the first and the last byte of a string are quotes, and it has two at least
string_ends : (bytes : List ℕ) → is_string bytes ≡ true → (get_or bytes 0 0 ≡ 34) × (1 < length bytes) × (get_or bytes (length bytes - 1) 0 ≡ 34)
string_ends [] h = cc
string_ends (b ∷ r) h =
    let parts = and_parts (b == 34) (closes r false) h in
    let last = closes_last r false parts.1 in
    let some = last.0 in
    (eqb-true b 34 parts.0, omega arith, (last_behind b r last).1)

-- the inside of a string of a text that is UTF-8 is UTF-8
pub inside_utf8 : (text : List ℕ) (token : Token) → IsUtf8 text → IsTokenOf text token → token.kind ≡ Text → IsUtf8 (slice_range text (token.start + 1) (token.«end» - 1))
inside_utf8 text token u is e =
    let s : ℕ = token.start in
    let t : ℕ = token.«end» in
    let some = is.some in
    let fits = is.within in
    let bytes : List ℕ = token_bytes text token in
    let ends = string_ends bytes (form_at Text text token is e) in
    let long : length bytes ≡ t - s = length-take (t - s) (drop s text) ∙ (let d = length-drop s text in omega arith) in
    let two = ends.1 in
    let at : (i : ℕ) → i < t - s → get_or bytes i 0 ≡ get_or text (s + i) 0 = λ i l. get_or-take (t - s) (drop s text) i 0 l ∙ get_or-drop s text i 0 in
    let first : get_or text s 0 ≡ 34 = ap (λ n. get_or text n 0) (let z : s ≡ s + 0 = omega arith in z) ∙ sym (at 0 (omega arith)) ∙ ends.0 in
    let place : s + (length bytes - 1) ≡ t - 1 = omega arith in
    let last : get_or text (t - 1) 0 ≡ 34 = ap (λ n. get_or text n 0) (sym place) ∙ sym (at (length bytes - 1) (omega arith)) ∙ ends.2 in
    IsUtf8-between text (s + 1) (t - 1) u (omega arith) (IsCharBoundary-after_ascii text s u (omega arith) (omega arith)) (IsCharBoundary-before_ascii text (t - 1) (omega arith) (omega arith))
