-- Parts one after the other, up to a place.
use Rattle.std.proofs.Common.{◌≡◌, ℕ, ◌+◌, ◌-◌, ◌<◌, ◌≤◌, Bool, true, not, ◌&&◌, List, [], ◌∷◌, ◌++◌, length, drop, refl, sym, ap, subst, ◌∙◌, inl, inr, arith, append_assoc, length-append}
use Rattle.std.specs.Bool.{◌==◌}
use Rattle.std.proofs.lemmas.Bool.{eqb-true}
use Rattle.std.proofs.lemmas.List.{drop_at, nil_from_length}
use Rattle.lexer.specs.declared.token.Token.{Token}
use Rattle.lexer.specs.declared.token.LexFault.{LexFault}
use Rattle.lexer.specs.declared.token.LexCause.{LexCause}
use Rattle.lexer.specs.declared.token.LexCause.TheVariants.{NotUtf8, OpenString, OpenComment, BadCharacter, NumberTooLarge}
use Rattle.lexer.specs.declared.token.TokenKind.TheVariants.{Num}
use Rattle.lexer.specs.declared.lexeme.Lexeme.{Lexeme}
use Rattle.lexer.specs.Forms.{is_zero_led, is_too_large}
use Rattle.lexer.specs.Parts.{Part, blank, line_comment, comment, token, part_bytes, part_tokens, parts_text, tokens_of, Stands, AllStand, IsParted}
use Rattle.lexer.specs.Faults.{BeginsDigits, HasFault, IsStopped}
use Rattle.lexer.specs.inner.Lexeme.{IsLexeme, lexeme_length, lexeme_tokens}
use Rattle.lexer.proofs.FormLemmas.{form_some}

pub parts_text-rest : (parts : List Part) (rest : List ℕ) → parts_text parts rest ≡ parts_text parts [] ++ rest
parts_text-rest [] rest = refl
parts_text-rest (p ∷ ps) rest = ap (λ l. part_bytes p ++ l) (parts_text-rest ps rest) ∙ sym (append_assoc (part_bytes p) (parts_text ps []) rest)

pub parts_text-append : (ps qs : List Part) (rest : List ℕ) → parts_text (ps ++ qs) rest ≡ parts_text ps (parts_text qs rest)
parts_text-append [] qs rest = refl
parts_text-append (p ∷ ps) qs rest = ap (λ l. part_bytes p ++ l) (parts_text-append ps qs rest)

pub AllStand-append : (ps qs : List Part) (rest : List ℕ) → AllStand ps (parts_text qs rest) → AllStand qs rest → AllStand (ps ++ qs) rest
AllStand-append [] qs rest all more = more
AllStand-append (p ∷ ps) qs rest all more =
    let S : List ℕ → Type 0 = λ l. Stands p l in
    (subst S (sym (parts_text-append ps qs rest)) all.0, AllStand-append ps qs rest all.1 more)

pub tokens_of-append : (at : ℕ) (ps qs : List Part) → tokens_of at (ps ++ qs) ≡ tokens_of at ps ++ tokens_of (at + length (parts_text ps [])) qs
tokens_of-append at [] qs = ap (λ n. tokens_of n qs) (let e : at ≡ at + 0 = omega arith in e)
tokens_of-append at (p ∷ ps) qs =
    let next : ℕ = at + length (part_bytes p) in
    let e : next + length (parts_text ps []) ≡ at + length (part_bytes p ++ parts_text ps []) = simp length-append (omega arith) in
    ap (λ l. part_tokens at p ++ l) (tokens_of-append next ps qs ∙ ap (λ n. tokens_of next ps ++ tokens_of n qs) e)
    ∙ sym (append_assoc (part_tokens at p) (tokens_of next ps) (tokens_of (at + length (part_bytes p ++ parts_text ps [])) qs))

-- the parts that were read, and the rest
pub record ReadSoFar (text : List ℕ) (tokens : List Token) (rest : List ℕ) : Type 0 where
  pub parts : List Part
  pub whole : text ≡ parts_text parts rest
  pub stand : AllStand parts rest
  pub are : tokens ≡ tokens_of 0 parts

pub nothing_read : (text : List ℕ) → ReadSoFar text [] text
nothing_read text = record { parts = []; whole = refl; stand = tt; are = refl }

-- how far the parts reach
pub reach : {text : List ℕ} {tokens : List Token} {rest : List ℕ} (read : ReadSoFar text tokens rest) → length text ≡ length (parts_text read.parts []) + length rest
reach {text} {tokens} {rest} read = ap length (read.whole ∙ parts_text-rest read.parts rest) ∙ length-append (parts_text read.parts []) rest

-- what was read at the front of the rest is added
pub read_more : (text : List ℕ) (tokens : List Token) (rest : List ℕ) (lexeme : Lexeme) (pushed : List Token) (left : List ℕ)
    → ReadSoFar text tokens rest → IsLexeme rest lexeme
    → pushed ≡ tokens ++ lexeme_tokens (length text - length rest) lexeme
    → left ≡ drop (lexeme_length lexeme) rest
    → ReadSoFar text pushed left
read_more text tokens rest lexeme pushed left read is p l =
    let front : List ℕ = parts_text is.parts [] in
    let whole : rest ≡ front ++ is.behind = is.begins ∙ parts_text-rest is.parts is.behind in
    let behind : left ≡ is.behind = l ∙ ap (λ n. drop n rest) is.long ∙ ap (λ xs. drop (length front) xs) whole ∙ drop_at front is.behind (length front) refl in
    let place : length text - length rest ≡ 0 + length (parts_text read.parts []) = omega (arith, reach read) in
    let now : pushed ≡ tokens_of 0 read.parts ++ tokens_of (0 + length (parts_text read.parts [])) is.parts =
    p ∙ ap (λ ts. ts ++ lexeme_tokens (length text - length rest) lexeme) read.are
    ∙ ap (λ n. tokens_of 0 read.parts ++ lexeme_tokens n lexeme) place
    ∙ ap (λ ts. tokens_of 0 read.parts ++ ts) (sym (is.tokens (0 + length (parts_text read.parts [])))) in
    let R : List ℕ → Type 0 = λ xs. ReadSoFar text pushed xs in
    let A : List ℕ → Type 0 = λ xs. AllStand read.parts xs in
    subst R (sym behind) (record {
      parts = read.parts ++ is.parts;
      whole = read.whole ∙ ap (λ xs. parts_text read.parts xs) is.begins ∙ sym (parts_text-append read.parts is.parts is.behind);
      stand = AllStand-append read.parts is.parts is.behind (subst A is.begins read.stand) is.stand;
      are = now ∙ sym (tokens_of-append 0 read.parts is.parts);
    })

pub all_read : (text : List ℕ) (tokens : List Token) (rest : List ℕ) (empty : Bool) → ReadSoFar text tokens rest → empty ≡ (length rest == 0) → empty ≡ true → IsParted text tokens
all_read text tokens rest empty read e h =
    let none : rest ≡ [] = nil_from_length rest (eqb-true (length rest) 0 (sym e ∙ h)) in
    let A : List ℕ → Type 0 = λ xs. AllStand read.parts xs in
    record {
      parts = read.parts;
      whole = read.whole ∙ ap (λ xs. parts_text read.parts xs) none;
      stand = subst A none read.stand;
      are = read.are;
    }

pub fault_read : (text : List ℕ) (tokens : List Token) (rest : List ℕ) (cause : LexCause) (on : ℕ) → ReadSoFar text tokens rest → HasFault cause on rest
    → IsStopped text (record { at = length text - length rest + on; cause = cause })
fault_read text tokens rest cause on read has = record {
  parts = read.parts;
  rest = rest;
  whole = read.whole;
  stand = read.stand;
  on = on;
  place = omega (arith, reach read);
  has = has;
}

pub part_nonempty : (p : Part) (rest : List ℕ) → Stands p rest → 0 < length (part_bytes p)
part_nonempty (blank byte) rest s = omega arith
part_nonempty (line_comment inside) rest s = omega arith
part_nonempty (comment inside) rest s = omega arith
part_nonempty (token kind bytes) rest s = form_some kind bytes s.0.form

parts_nonempty : (ps : List Part) (rest : List ℕ) → (ps ≡ [] → ⊥) → AllStand ps rest → 0 < length (parts_text ps [])
parts_nonempty [] rest n s = absurd (n refl)
parts_nonempty (p ∷ ps) rest n s =
    let some = part_nonempty p (parts_text ps rest) s.0 in
    simp length-append (omega arith)

-- a lexeme takes a byte at least, and no more than there are
pub lexeme_within : (rest : List ℕ) (lexeme : Lexeme) → IsLexeme rest lexeme → (0 < lexeme_length lexeme) × (lexeme_length lexeme ≤ length rest)
lexeme_within rest lexeme is =
    let some = parts_nonempty is.parts is.behind is.some is.stand in
    let sum : length rest ≡ length (parts_text is.parts []) + length is.behind = ap length (is.begins ∙ parts_text-rest is.parts is.behind) ∙ length-append (parts_text is.parts []) is.behind in
    (omega (arith, is.long), omega (arith, is.long))

zero_led_long : (digits : List ℕ) → is_zero_led digits ≡ true → 1 < length digits
zero_led_long [] h = cc
zero_led_long (a ∷ []) h = cc
zero_led_long (a ∷ b ∷ r) h = omega arith

pub digits_some : (test : List ℕ → Bool) (rest : List ℕ) → BeginsDigits test rest → 0 < length rest
digits_some test rest d =
    let some = form_some Num d.digits d.run.form in
    let long : length rest ≡ length d.digits + length d.behind = ap length d.begins ∙ length-append d.digits d.behind in
    omega arith

-- a fault stands within the rest
pub fault_within : (cause : LexCause) (on : ℕ) (rest : List ℕ) → HasFault cause on rest → on < length rest
fault_within NotUtf8 on rest h = absurd h
fault_within OpenString on rest h = let long : length rest ≡ length (34 ∷ h.1.behind) = ap length h.1.begins in omega (arith, h.0)
fault_within OpenComment on rest h = let long : length rest ≡ length (37 ∷ 42 ∷ h.1.inside) = ap length h.1.begins in omega (arith, h.0)
fault_within BadCharacter on rest (inl h) = let long : length rest ≡ length (h.1.byte ∷ h.1.behind) = ap length h.1.begins in omega (arith, h.0)
fault_within BadCharacter on rest (inr h) =
    let two = zero_led_long h.1.digits h.1.found in
    let sum : length rest ≡ length h.1.digits + length h.1.behind = ap length h.1.begins ∙ length-append h.1.digits h.1.behind in
    omega (arith, h.0)
fault_within NumberTooLarge on rest h =
    let some = digits_some (λ digits. not (is_zero_led digits) && is_too_large digits) rest h.1 in
    omega (arith, h.0)

-- so it stands within the text
pub stop_within : (text : List ℕ) (fault : LexFault) → IsStopped text fault → fault.at < length text
stop_within text fault s =
    let on = fault_within fault.cause s.on s.rest s.has in
    let long : length text ≡ length (parts_text s.parts []) + length s.rest = ap length (s.whole ∙ parts_text-rest s.parts s.rest) ∙ length-append (parts_text s.parts []) s.rest in
    omega (arith, s.place)
