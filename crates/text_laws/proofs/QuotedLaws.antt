-- What a string's content is between its quotes: a string's token, UTF-8, and the content again once its escapes are undone.
use Rattle.std.proofs.Common.{◌≡◌, ℕ, suc, ◌<◌, ◌≤◌, true, false, ◌==◌, List, [], ◌∷◌, ◌++◌, length, get_or, IsUtf8, encode_utf8_all, refl, sym, ◌∙◌, ap, subst, inl, inr, arith, append_assoc, append-nil, nat_lt}
use Rattle.std.specs.List.{list_all}
use Rattle.std.specs.Str.{all_scalars}
use Rattle.std.specs.Char.{encode_utf8, IsScalar}
use Rattle.std.proofs.lemmas.Bool.{and_parts, cases_lt, cases_Bool, eqb-true, ltb-true, ne_eqb}
use Rattle.std.proofs.lemmas.Str.{IsUtf8-append, IsUtf8-nil, IsUtf8-encode, IsUtf8-from_ascii, encode_ascii, inside_one}
use Rattle.std.proofs.lemmas.Str.Ascii.{IsAscii-cons}
use Rattle.std.specs.Str.{IsAscii}
use Rattle.symbols.specs.Text.{byte_text, quoted}
use Rattle.lexer.specs.Forms.{closes}
use Rattle.grammar.specs.Word.{unquoted}
use Rattle.grammar.specs.Word as word
use Rattle.grammar.specs.Standing.{IsToken}

-- a claim of a byte and the text that it stands as: for each byte with an escape, and for a byte that stands as itself
byte_by : (byte : ℕ) (P : ℕ → List ℕ → Type 0) → P 92 (92 ∷ 92 ∷ []) → P 34 (92 ∷ 34 ∷ []) → P 10 (92 ∷ 110 ∷ [])
    → ((byte == 92) ≡ false → (byte == 34) ≡ false → (byte == 10) ≡ false → P byte (byte ∷ [])) → P byte (byte_text byte)
byte_by byte P slash quote feed plain =
    elim (cases_Bool (byte == 92)) [
      | inl is ↦ rw is (subst (λ b. P b (92 ∷ 92 ∷ [])) (sym (eqb-true byte 92 is)) slash)
      | inr no_slash ↦
          elim (cases_Bool (byte == 34)) [
            | inl is ↦ rw (no_slash, is) (subst (λ b. P b (92 ∷ 34 ∷ [])) (sym (eqb-true byte 34 is)) quote)
            | inr no_quote ↦
                elim (cases_Bool (byte == 10)) [
                  | inl is ↦ rw (no_slash, no_quote, is) (subst (λ b. P b (92 ∷ 110 ∷ [])) (sym (eqb-true byte 10 is)) feed)
                  | inr no_feed ↦ rw (no_slash, no_quote, no_feed) (plain no_slash no_quote no_feed)
                ]
          ]
    ]

-- ---- its escapes undone
plain_back : (byte : ℕ) (rest : List ℕ) → (byte == 92) ≡ false → (byte == 34) ≡ false → unquoted (byte ∷ rest) false ≡ byte ∷ unquoted rest false
plain_back byte rest slash quote = rw (quote, slash) refl

pub quoted_back : (bytes : List ℕ) → unquoted (quoted bytes ++ 34 ∷ []) false ≡ bytes
quoted_back [] = refl
quoted_back (byte ∷ bytes) =
    let rest : List ℕ = quoted bytes ++ 34 ∷ [] in
    let back : unquoted rest false ≡ bytes = quoted_back bytes in
    ap (λ l. unquoted l false) (append_assoc (byte_text byte) (quoted bytes) (34 ∷ []))
    ∙ byte_by byte (λ b text. unquoted (text ++ rest) false ≡ b ∷ bytes) (ap (λ l. 92 ∷ l) back) (ap (λ l. 34 ∷ l) back) (ap (λ l. 10 ∷ l) back)
    (λ slash quote feed. plain_back byte rest slash quote ∙ ap (λ l. byte ∷ l) back)

-- ---- a string's token
plain_closes : (byte : ℕ) (rest : List ℕ) → (byte == 92) ≡ false → (byte == 34) ≡ false → (byte == 10) ≡ false → closes (byte ∷ rest) false ≡ closes rest false
plain_closes byte rest slash quote feed = rw (quote, feed, slash) refl

quoted_closes : (bytes : List ℕ) → closes (quoted bytes ++ 34 ∷ []) false ≡ true
quoted_closes [] = refl
quoted_closes (byte ∷ bytes) =
    let rest : List ℕ = quoted bytes ++ 34 ∷ [] in
    let closed : closes rest false ≡ true = quoted_closes bytes in
    ap (λ l. closes l false) (append_assoc (byte_text byte) (quoted bytes) (34 ∷ []))
    ∙ byte_by byte (λ b text. closes (text ++ rest) false ≡ true) closed closed closed (λ slash quote feed. plain_closes byte rest slash quote feed ∙ closed)

-- what a string holds is a token between its quotes, whatever its bytes
pub string_token : (bytes : List ℕ) → IsToken (word.string bytes)
string_token bytes = (quoted_closes bytes, refl)

-- ---- UTF-8
ascii_test : (bytes : List ℕ) → list_all (λ b. nat_lt b 128) bytes ≡ true → IsAscii bytes
ascii_test [] h = λ i. omega arith
ascii_test (b ∷ bytes) h = let p = and_parts (nat_lt b 128) (list_all (λ b. nat_lt b 128) bytes) h in IsAscii-cons b bytes (ltb-true b 128 p.0) (ascii_test bytes p.1)

-- bytes that are written out are UTF-8 where each is ASCII
pub ascii_utf8 : (bytes : List ℕ) → list_all (λ b. nat_lt b 128) bytes ≡ true → IsUtf8 bytes
ascii_utf8 bytes h = IsUtf8-from_ascii bytes (ascii_test bytes h)

quoted_more : (front behind : List ℕ) → quoted (front ++ behind) ≡ quoted front ++ quoted behind
quoted_more [] behind = refl
quoted_more (byte ∷ front) behind = ap (λ l. byte_text byte ++ l) (quoted_more front behind) ∙ sym (append_assoc (byte_text byte) (quoted front) (quoted behind))

high_text : (byte : ℕ) → 128 ≤ byte → byte_text byte ≡ byte ∷ []
high_text byte high =
    let slash : (byte == 92) ≡ false = ne_eqb byte 92 (λ e. omega (arith, e)) in
    let quote : (byte == 34) ≡ false = ne_eqb byte 34 (λ e. omega (arith, e)) in
    let feed : (byte == 10) ≡ false = ne_eqb byte 10 (λ e. omega (arith, e)) in
    rw (slash, quote, feed) refl

-- bytes that are no ASCII stand as they are
quoted_high : (bytes : List ℕ) → ((k : ℕ) → k < length bytes → 128 ≤ get_or bytes k 0) → quoted bytes ≡ bytes
quoted_high [] high = refl
quoted_high (byte ∷ bytes) high = (λ i. high_text byte (high 0 (omega arith)) i ++ quoted_high bytes (λ k below. high (suc k) (omega (arith, below))) i)

quoted_ascii : (c : ℕ) → IsUtf8 (c ∷ []) → IsUtf8 (quoted (c ∷ []))
quoted_ascii c u =
    subst IsUtf8 (sym (append-nil (byte_text c)))
    (byte_by c (λ b text. IsUtf8 text) (ascii_utf8 (92 ∷ 92 ∷ []) refl) (ascii_utf8 (92 ∷ 34 ∷ []) refl) (ascii_utf8 (92 ∷ 110 ∷ []) refl) (λ slash quote feed. u))

quoted_char : (c : ℕ) → IsScalar c → IsUtf8 (quoted (encode_utf8 c))
quoted_char c scalar =
    let one : IsUtf8 (encode_utf8 c) = IsUtf8-encode c scalar in
    elim (cases_lt c 128) [
      | inl small ↦ subst (λ l. IsUtf8 (quoted l)) (sym (encode_ascii c small)) (quoted_ascii c (subst IsUtf8 (encode_ascii c small) one))
      | inr big ↦
          let high : (k : ℕ) → k < length (encode_utf8 c) → 128 ≤ get_or (encode_utf8 c) k 0 = λ k below. elim (cases_lt (get_or (encode_utf8 c) k 0) 128) [
            | inl low ↦ absurd (omega (arith, inside_one c [] (encode_utf8 c) k (sym (append-nil _)) below low))
            | inr h ↦ h
          ] in
          subst IsUtf8 (sym (quoted_high (encode_utf8 c) high)) one
    ]

quoted_chars : (cs : List ℕ) → all_scalars cs ≡ true → IsUtf8 (quoted (encode_utf8_all cs))
quoted_chars [] s = IsUtf8-nil
quoted_chars (c ∷ cs) s =
    let p : IsScalar c × (all_scalars cs ≡ true) = and_parts _ _ s in
    subst IsUtf8 (sym (quoted_more (encode_utf8 c) (encode_utf8_all cs))) (IsUtf8-append (quoted (encode_utf8 c)) (quoted (encode_utf8_all cs)) (quoted_char c p.0) (quoted_chars cs p.1))

pub quoted_utf8 : (bytes : List ℕ) → IsUtf8 bytes → IsUtf8 (quoted bytes)
quoted_utf8 bytes u = subst (λ l. IsUtf8 (quoted l)) u.1.1 (quoted_chars u.0 u.1.0)
