-- Strings, read from their opening quote.
use Rattle.std.proofs.Common.{◌≡◌, ℕ, suc, ◌+◌, ◌-◌, ◌<◌, ◌≤◌, Bool, true, false, List, [], ◌∷◌, ◌++◌, length, take, drop, get_or, Some, None, refl, sym, ap, subst, ◌∙◌, inl, inr, arith}
use Rattle.std.specs.Bool.{◌==◌}
use Rattle.std.proofs.lemmas.Bool.{and_parts, and_left, both_ways, cases_Bool, false_from_ne_true}
use Rattle.std.proofs.lemmas.List.{take-append-drop, length-take-le, take_rest}
use Rattle.lexer.specs.declared.token.TokenKind.{TokenKind}
use Rattle.lexer.specs.declared.token.TokenKind.TheVariants.{Num, Id, Var, Anon, Text, NotWord, ConstWord, ShowWord, Mark}
use Rattle.lexer.specs.declared.token.LexCause.TheVariants.{OpenString}
use Rattle.lexer.specs.declared.lexeme.Lexeme.TheVariants.{Single}
use Rattle.lexer.specs.Bytes.{is_escape}
use Rattle.lexer.specs.Forms.{has_form, closes, is_nothing, is_mark}
use Rattle.lexer.specs.Parts.{IsLongest}
use Rattle.lexer.specs.Faults.{BeginsNoToken, HasFault}
use Rattle.lexer.specs.inner.Lexeme.{IsLexeme, string_from}
use Rattle.lexer.proofs.LexemeLemmas.{token_lexeme}
use Rattle.lexer.proofs.MarkLemmas.{from_first}

-- the inside that was found closes
pub record Found (more : ℕ) (xs : List ℕ) (escaped : Bool) (n : ℕ) : Type 0 where
  pub long : ℕ
  pub is : n ≡ more + long
  pub fits : long ≤ length xs
  pub closed : closes (take long xs) escaped ≡ true

found_on : (more : ℕ) (b : ℕ) (xs : List ℕ) (escaped next : Bool) (n : ℕ) → ((k : ℕ) → closes (b ∷ take k xs) escaped ≡ closes (take k xs) next) → Found (more + 1) xs next n → Found more (b ∷ xs) escaped n
found_on more b xs escaped next n step f = record {
  long = suc f.long;
  is = (let e = f.is in omega arith);
  fits = (let e = f.fits in omega arith);
  closed = step f.long ∙ f.closed;
}

pub string_found : (more : ℕ) (xs : List ℕ) (escaped : Bool) (n : ℕ) → string_from more xs escaped ≡ Some n → Found more xs escaped n
string_found more [] escaped n h = cc
string_found more (b ∷ r) true n h =
    elim (cases_Bool (is_escape b)) [
      | inl holds ↦ found_on more b r true false n (λ k. rw holds refl) (string_found (more + 1) r false n (rw holds at h))
      | inr other ↦ let e : None ≡ Some n = rw other at h in cc
    ]
string_found more (b ∷ r) false n h =
    elim (cases_Bool (b == 34)) [
      | inl quote ↦
          let e : Some (more + 1) ≡ Some n = rw quote at h in
          let same : more + 1 ≡ n = cc in
          record { long = 1; is = sym same; fits = omega arith; closed = rw quote refl }
      | inr other ↦
          elim (cases_Bool (b == 10)) [
            | inl feed ↦ let e : None ≡ Some n = rw (other, feed) at h in cc
            | inr inside ↦
                let inner : string_from (more + 1) r (b == 92) ≡ Some n = rw (other, inside) at h in
                found_on more b r false (b == 92) n (λ k. rw (other, inside) refl) (string_found (more + 1) r (b == 92) n inner)
          ]
    ]

-- where none was found, no front closes
pub string_none : (more : ℕ) (front behind : List ℕ) (escaped : Bool) → string_from more (front ++ behind) escaped ≡ None → closes front escaped ≡ false
string_none more [] behind escaped h = refl
string_none more (b ∷ r) behind true h =
    elim (cases_Bool (is_escape b)) [
      | inl holds ↦ rw holds (string_none (more + 1) r behind false (rw holds at h))
      | inr other ↦ and_left (is_escape b) (closes r false) other
    ]
string_none more (b ∷ r) behind false h =
    elim (cases_Bool (b == 34)) [
      | inl quote ↦ let e : Some (more + 1) ≡ None = rw quote at h in cc
      | inr other ↦
          elim (cases_Bool (b == 10)) [
            | inl feed ↦ rw (other, feed) refl
            | inr inside ↦
                let inner : string_from (more + 1) (r ++ behind) (b == 92) ≡ None = rw (other, inside) at h in
                rw (other, inside) (string_none (more + 1) r behind (b == 92) inner)
          ]
    ]

-- what closes is closed by its last byte alone
pub closes_once : (xs more : List ℕ) (escaped : Bool) → closes xs escaped ≡ true → closes (xs ++ more) escaped ≡ true → more ≡ []
closes_once [] more escaped f g = cc
closes_once (b ∷ r) more true f g =
    closes_once r more false (and_parts (is_escape b) (closes r false) f).1 (and_parts (is_escape b) (closes (r ++ more) false) g).1
closes_once (b ∷ r) more false f g =
    elim (cases_Bool (b == 34)) [
      | inl quote ↦ ended r (rw quote at f) (rw quote at g)
      | inr other ↦
          elim (cases_Bool (b == 10)) [
            | inl feed ↦ let e : false ≡ true = rw (other, feed) at f in cc
            | inr inside ↦
                let first : closes r (b == 92) ≡ true = rw (other, inside) at f in
                let longer : closes (r ++ more) (b == 92) ≡ true = rw (other, inside) at g in
                closes_once r more (b == 92) first longer
          ]
    ]
  where
    nothing : (ys : List ℕ) → is_nothing ys ≡ true → ys ≡ []
    nothing [] h = refl
    nothing (y ∷ ys) h = cc

    ended : (r : List ℕ) → is_nothing r ≡ true → is_nothing (r ++ more) ≡ true → more ≡ []
    ended [] f g = nothing more g
    ended (y ∷ ys) f g = cc

-- what begins with a quote is a string, if a token
pub quote_closes : (kind : TokenKind) (bs : List ℕ) → has_form kind (34 ∷ bs) ≡ true → closes bs false ≡ true
quote_closes Num bs h = cc
quote_closes Id bs h = cc
quote_closes Var bs h = cc
quote_closes Anon bs h = cc
quote_closes Text bs h = h
quote_closes NotWord bs h = cc
quote_closes ConstWord bs h = cc
quote_closes ShowWord bs h = cc
quote_closes Mark bs h = mark bs h
  where
    mark : (cs : List ℕ) → is_mark (34 ∷ cs) ≡ true → closes bs false ≡ true
    mark [] m = cc
    mark (c ∷ []) m = cc
    mark (c ∷ d ∷ cs) m = cc

-- the bytes behind the first
pub behind_first : (b : ℕ) (r : List ℕ) → take (length (b ∷ r) - 1) (drop 1 (b ∷ r)) ≡ r
behind_first b r = take_rest (b ∷ r) 1

pub string_lexeme : (rest : List ℕ) (n : ℕ) → 0 < length rest → get_or rest 0 0 ≡ 34 → string_from 0 (take (length rest - 1) (drop 1 rest)) false ≡ Some n → IsLexeme rest (Single Text (n + 1))
string_lexeme [] n l q h = absurd (omega arith)
string_lexeme (b ∷ r) n l q h =
    let S : List ℕ → Type 0 = λ xs. string_from 0 xs false ≡ Some n in
    let f = string_found 0 r false n (subst S (behind_first b r) h) in
    let bytes : List ℕ = take f.long r in
    let e : b ∷ r ≡ (34 ∷ bytes) ++ drop f.long r = ap (λ x. x ∷ r) q ∙ ap (λ xs. 34 ∷ xs) (sym (take-append-drop f.long r)) in
    let long : length bytes ≡ f.long = length-take-le f.long r f.fits in
    token_lexeme Text (34 ∷ bytes) (drop f.long r) (b ∷ r) (n + 1) e (record { form = f.closed; longest = longest bytes (drop f.long r) f.closed }) refl
    (let i = f.is in omega (arith, long))
  where
    longest : (bytes behind : List ℕ) → closes bytes false ≡ true → IsLongest (34 ∷ bytes) behind
    longest bytes behind c kind more after e g = closes_once bytes more false c (quote_closes kind (bytes ++ more) g)

-- a string fits in what stands behind its quote
pub string_fits : (rest : List ℕ) (n : ℕ) → 0 < length rest → string_from 0 (take (length rest - 1) (drop 1 rest)) false ≡ Some n → n < length rest
string_fits [] n l h = absurd (omega arith)
string_fits (b ∷ r) n l h =
    let S : List ℕ → Type 0 = λ xs. string_from 0 xs false ≡ Some n in
    let f = string_found 0 r false n (subst S (behind_first b r) h) in
    let i = f.is in
    let k = f.fits in
    omega arith

pub string_fault : (rest : List ℕ) → 0 < length rest → get_or rest 0 0 ≡ 34 → string_from 0 (take (length rest - 1) (drop 1 rest)) false ≡ None → HasFault OpenString 0 rest
string_fault [] l q h = absurd (omega arith)
string_fault (b ∷ r) l q h =
    let S : List ℕ → Type 0 = λ xs. string_from 0 xs false ≡ None in
    let none : string_from 0 r false ≡ None = subst S (behind_first b r) h in
    let e : b ∷ r ≡ 34 ∷ r = ap (λ x. x ∷ r) q in
    let N : List ℕ → Type 0 = λ xs. BeginsNoToken xs in
    (refl, record { behind = r; begins = e; none = subst N (sym e) (from_first 34 r (no_string none)) })
  where
    no_string : string_from 0 r false ≡ None → (kind : TokenKind) (front behind : List ℕ) → r ≡ front ++ behind → has_form kind (34 ∷ front) ≡ false
    no_string none kind front behind e =
        let S : List ℕ → Type 0 = λ xs. string_from 0 xs false ≡ None in
        false_from_ne_true (has_form kind (34 ∷ front)) (λ f.
        both_ways (closes front false) (string_none 0 front behind false (subst S e none)) (quote_closes kind front f))
