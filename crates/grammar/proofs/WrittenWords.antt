-- The words of a text are written well.
use Rattle.std.proofs.Common.{◌≡◌, ℕ, zero, suc, ◌+◌, ◌-◌, ◌<◌, ◌≤◌, Bool, true, false, ◌==◌, not, List, [], ◌∷◌, ◌++◌, length, take, drop, get_or, IsUtf8, encode_utf8_all, refl, sym, ◌∙◌, ap, subst, inl, inr, arith, append-nil}
use Rattle.std.specs.Prelude.{slice_range}
use Rattle.std.specs.List.{AllByRecursion}
use Rattle.std.specs.Str.{all_scalars}
use Rattle.std.specs.Char.{encode_utf8, IsScalar}
use Rattle.std.proofs.lemmas.Bool.{and_parts, and_from, cases_lt, cases_Bool, eqb-true, ne_eqb}
use Rattle.std.proofs.lemmas.List.{take_more, drop-drop, length-drop, length-take}
use Rattle.std.proofs.lemmas.Str.{IsUtf8-append, IsUtf8-nil, IsUtf8-encode, IsUtf8-from_ascii, encode_ascii, length-encode, len_utf8_bounds, inside_one, is_utf8-from_IsUtf8}
use Rattle.lexer.specs.Bytes.{is_lower, is_upper, is_escape}
use Rattle.lexer.specs.Forms.{has_form, is_name as has_name_form, is_string, closes}
use Rattle.lexer.specs.Tokens.{token_bytes, IsTokenOf}
use Rattle.lexer.specs.Parts.{IsTokenisation}
use Rattle.lexer.specs.declared.token.Token.{Token}
use Rattle.lexer.specs.declared.token.TokenKind.{TokenKind}
use Rattle.lexer.specs.declared.token.TokenKind.TheVariants.{Num, Id, Var, Anon, Text, NotWord, ConstWord, ShowWord, Mark}
use Rattle.lexer.proofs.FormLemmas.{id_name}
use Rattle.lexer.proofs.TokenLemmas.{each_token}
use Rattle.lexer.proofs.TokenFacts.{name_bytes, var_name_bytes, name_utf8, inside_utf8}
use Rattle.syntax_tree.specs.Tree.{is_name}
use Rattle.grammar.specs.Word.{word_of, words_of, escaped, unquoted, string_content}
use Rattle.grammar.specs.Written.{is_written, AreWritten}

-- ---- what a string holds
ascii_then : (byte : ℕ) (rest : List ℕ) → byte < 128 → IsUtf8 rest → IsUtf8 (byte ∷ rest)
ascii_then byte rest small u = IsUtf8-append (byte ∷ []) rest (IsUtf8-from_ascii (byte ∷ []) one) u
  where
    one : (i : ℕ) → get_or (byte ∷ []) i 0 < 128
    one zero = small
    one (suc i) = omega arith

escaped_below : (byte : ℕ) → byte < 128 → escaped byte < 128
escaped_below byte small = elim (cases_Bool (byte == 110)) [ inl same ↦ rw same (omega arith) | inr other ↦ rw other small ]

escaped_high : (byte : ℕ) → 128 ≤ byte → escaped byte ≡ byte
escaped_high byte high =
    elim (cases_Bool (byte == 110)) [ inl same ↦ absurd (let e = eqb-true byte 110 same in omega arith) | inr other ↦ rw other refl ]

-- a byte that is no ASCII stays as it is
high_byte : (byte : ℕ) (rest : List ℕ) → 128 ≤ byte → unquoted (byte ∷ rest) false ≡ byte ∷ unquoted rest false
high_byte byte rest high =
    elim (cases_Bool (byte == 34)) [
      | inl quote ↦ absurd (let e = eqb-true byte 34 quote in omega arith)
      | inr other ↦
          elim (cases_Bool (byte == 92)) [
            | inl slash ↦ absurd (let e = eqb-true byte 92 slash in omega arith)
            | inr plain ↦ rw (other, plain) refl
          ]
    ]

abbrev AreHigh : List ℕ → Type 0
AreHigh bytes = (k : ℕ) → k < length bytes → 128 ≤ get_or bytes k 0

high_rest : (byte : ℕ) (bytes : List ℕ) → AreHigh (byte ∷ bytes) → AreHigh bytes
high_rest byte bytes h k below = h (suc k) (omega arith)

high_bytes : (bytes rest : List ℕ) → AreHigh bytes → unquoted (bytes ++ rest) false ≡ bytes ++ unquoted rest false
high_bytes [] rest h = refl
high_bytes (byte ∷ bytes) rest h = high_byte byte (bytes ++ rest) (h 0 (omega arith)) ∙ ap (λ z. byte ∷ z) (high_bytes bytes rest (high_rest byte bytes h))

high_char : (bytes rest : List ℕ) (escape : Bool) → 0 < length bytes → AreHigh bytes → unquoted (bytes ++ rest) escape ≡ bytes ++ unquoted rest false
high_char [] rest escape some h = absurd (omega arith)
high_char (byte ∷ bytes) rest false some h = high_bytes (byte ∷ bytes) rest h
high_char (byte ∷ bytes) rest true some h =
    ap (λ z. z ∷ unquoted (bytes ++ rest) false) (escaped_high byte (h 0 (omega arith))) ∙ ap (λ z. byte ∷ z) (high_bytes bytes rest (high_rest byte bytes h))

ascii_char : (byte : ℕ) (rest : List ℕ) (escape : Bool) → byte < 128 → ((e : Bool) → IsUtf8 (unquoted rest e)) → IsUtf8 (unquoted (byte ∷ rest) escape)
ascii_char byte rest true small each = ascii_then (escaped byte) (unquoted rest false) (escaped_below byte small) (each false)
ascii_char byte rest false small each =
    elim (cases_Bool (byte == 34)) [
      | inl quote ↦ rw quote IsUtf8-nil
      | inr other ↦
          elim (cases_Bool (byte == 92)) [
            | inl slash ↦ rw (other, slash) (each true)
            | inr plain ↦ rw (other, plain) (ascii_then byte (unquoted rest false) small (each false))
          ]
    ]

encode_some : (c : ℕ) → 128 ≤ c → 0 < length (encode_utf8 c)
encode_some c high = omega (arith, length-encode c, (len_utf8_bounds c).0)

unquoted_chars : (cs : List ℕ) (escape : Bool) → all_scalars cs ≡ true → IsUtf8 (unquoted (encode_utf8_all cs) escape)
unquoted_chars [] escape s = IsUtf8-nil
unquoted_chars (c ∷ cs) escape s =
    let p : IsScalar c × (all_scalars cs ≡ true) = and_parts _ _ s in
    let rest : List ℕ = encode_utf8_all cs in
    elim (cases_lt c 128) [
      | inl small ↦ subst (λ z. IsUtf8 (unquoted (z ++ rest) escape)) (sym (encode_ascii c small)) (ascii_char c rest escape small (λ e. unquoted_chars cs e p.1))
      | inr big ↦
          let high : AreHigh (encode_utf8 c) = λ k below. elim (cases_lt (get_or (encode_utf8 c) k 0) 128) [
            | inl low ↦ absurd (omega (arith, inside_one c [] (encode_utf8 c) k (sym (append-nil _)) below low))
            | inr h ↦ h
          ] in
          subst IsUtf8 (sym (high_char (encode_utf8 c) rest escape (encode_some c big) high)) (IsUtf8-append (encode_utf8 c) (unquoted rest false) (IsUtf8-encode c p.0) (unquoted_chars cs false p.1))
    ]

-- what is left of a text without quotes and escapes is a text
pub unquoted_utf8 : (bytes : List ℕ) (escape : Bool) → IsUtf8 bytes → IsUtf8 (unquoted bytes escape)
unquoted_utf8 bytes escape u = subst (λ z. IsUtf8 (unquoted z escape)) u.1.1 (unquoted_chars u.0 escape u.1.0)

-- the quote at the end is not of it
unquoted_end : (front : List ℕ) (last : ℕ) (escape : Bool) → closes (front ++ last ∷ []) escape ≡ true → unquoted (front ++ last ∷ []) escape ≡ unquoted front escape
unquoted_end [] last true h = let p = and_parts (is_escape last) false h in absurd cc
unquoted_end [] last false h =
    elim (cases_Bool (last == 34)) [
      | inl quote ↦ rw quote refl
      | inr other ↦
          elim (cases_Bool (last == 10)) [
            | inl feed ↦ let e : false ≡ true = rw (other, feed) at h in absurd cc
            | inr inside ↦ let e : false ≡ true = rw (other, inside) at h in absurd cc
          ]
    ]
unquoted_end (byte ∷ front) last true h =
    ap (λ z. escaped byte ∷ z) (unquoted_end front last false (and_parts (is_escape byte) (closes (front ++ last ∷ []) false) h).1)
unquoted_end (byte ∷ front) last false h =
    elim (cases_Bool (byte == 34)) [
      | inl quote ↦ rw quote refl
      | inr other ↦
          elim (cases_Bool (byte == 10)) [
            | inl feed ↦ let e : false ≡ true = rw (other, feed) at h in absurd cc
            | inr inside ↦
                let inner : closes (front ++ last ∷ []) (byte == 92) ≡ true = rw (other, inside) at h in
                elim (cases_Bool (byte == 92)) [
                  | inl slash ↦ rw (other, slash) (unquoted_end front last true (rw slash at inner))
                  | inr plain ↦ rw (other, plain) (ap (λ z. byte ∷ z) (unquoted_end front last false (rw plain at inner)))
                ]
          ]
    ]

-- a token with two bytes at least, without its first: those between its first and its last, and the last
behind_first : (more : ℕ) (bytes : List ℕ) → more + 1 < length bytes → drop 1 (take (suc (more + 1)) bytes) ≡ take more (drop 1 bytes) ++ get_or (drop 1 bytes) more 0 ∷ []
behind_first more [] fits = absurd (omega arith)
behind_first more (byte ∷ bytes) fits = take_more bytes more 0 (omega arith)

string_two : (bytes : List ℕ) → is_string bytes ≡ true → (1 < length bytes) × (closes (drop 1 bytes) false ≡ true)
string_two [] h = absurd cc
string_two (byte ∷ []) h = let p = and_parts (byte == 34) false h in absurd cc
string_two (byte ∷ next ∷ bytes) h = (omega arith, (and_parts (byte == 34) (closes (next ∷ bytes) false) h).1)

string_utf8 : (text : List ℕ) (token : Token) → IsUtf8 text → IsTokenOf text token → token.kind ≡ Text → IsUtf8 (string_content (token_bytes text token))
string_utf8 text token u is e =
    let s : ℕ = token.start in
    let t : ℕ = token.«end» in
    let some = is.some in
    let fits = is.within in
    let bytes : List ℕ = drop s text in
    let form : is_string (token_bytes text token) ≡ true = subst (λ k. has_form k (token_bytes text token) ≡ true) e is.form in
    let left = length-drop s text in
    let long : length (token_bytes text token) ≡ t - s = length-take (t - s) bytes ∙ omega arith in
    let two = (string_two (token_bytes text token) form).0 in
    let more : ℕ = t - s - 2 in
    let inside : List ℕ = take more (drop 1 bytes) in
    let last : ℕ = get_or (drop 1 bytes) more 0 in
    let size : t - s ≡ suc (more + 1) = omega arith in
    let whole : drop 1 (token_bytes text token) ≡ inside ++ last ∷ [] = ap (λ k. drop 1 (take k bytes)) size ∙ behind_first more bytes (omega arith) in
    let closed : closes (inside ++ last ∷ []) false ≡ true = subst (λ z. closes z false ≡ true) whole (string_two (token_bytes text token) form).1 in
    let content : string_content (token_bytes text token) ≡ unquoted inside false = ap (λ z. unquoted z false) whole ∙ unquoted_end inside last false closed in
    let range : slice_range text (s + 1) (t - 1) ≡ inside = ap (λ k. take k (drop (s + 1) text)) (let k : (t - 1) - (s + 1) ≡ more = omega arith in k) ∙ ap (λ z. take more z) (sym (drop-drop 1 s text)) in
    subst IsUtf8 (sym content) (unquoted_utf8 inside false (subst IsUtf8 range (inside_utf8 text token u is e)))

-- ---- each token
is_some : (byte : ℕ) (bytes : List ℕ) → IsUtf8 (byte ∷ bytes) → is_name (byte ∷ bytes) ≡ true
is_some byte bytes u = and_from _ _ (ap not (ne_eqb (length (byte ∷ bytes)) 0 (λ e. omega (arith, e)))) (is_utf8-from_IsUtf8 (byte ∷ bytes) u)

name_written : (bytes : List ℕ) → has_name_form is_lower bytes ≡ true → is_name bytes ≡ true
name_written [] h = absurd cc
name_written (byte ∷ bytes) h = is_some byte bytes (name_utf8 (byte ∷ bytes) (name_bytes (byte ∷ bytes) h))

variable_written : (bytes : List ℕ) → has_name_form is_upper bytes ≡ true → is_name bytes ≡ true
variable_written [] h = absurd cc
variable_written (byte ∷ bytes) h = is_some byte bytes (name_utf8 (byte ∷ bytes) (var_name_bytes (byte ∷ bytes) h))

word_written : (text : List ℕ) (token : Token) → IsUtf8 text → IsTokenOf text token → is_written (word_of token.kind (token_bytes text token)) ≡ true
word_written text token u is = by token.kind refl is.form
  where
    by : (kind : TokenKind) → token.kind ≡ kind → has_form kind (token_bytes text token) ≡ true → is_written (word_of kind (token_bytes text token)) ≡ true
    by Num e h = refl
    by Id e h = name_written (token_bytes text token) (id_name (token_bytes text token) h)
    by Var e h = variable_written (token_bytes text token) h
    by Anon e h = refl
    by Text e h = is_utf8-from_IsUtf8 (string_content (token_bytes text token)) (string_utf8 text token u is e)
    by NotWord e h = refl
    by ConstWord e h = refl
    by ShowWord e h = refl
    by Mark e h = refl

each_written : (text : List ℕ) (tokens : List Token) → IsUtf8 text → AllByRecursion (IsTokenOf text) tokens → AreWritten (words_of text tokens)
each_written text [] u h = tt
each_written text (token ∷ tokens) u h = (word_written text token u h.0, each_written text tokens u h.1)

pub words_written : (text : List ℕ) (tokens : List Token) → IsTokenisation text tokens → AreWritten (words_of text tokens)
words_written text tokens is = each_written text tokens is.utf8 (each_token text tokens is.parted)
