-- What was read at the front, as parts.
use Rattle.std.proofs.Common.{◌≡◌, ℕ, suc, ◌+◌, ◌<◌, Bool, true, List, [], ◌∷◌, ◌++◌, length, take, drop, get_or, refl, sym, ap, subst, ◌∙◌, inl, inr, arith}
use Rattle.std.specs.List.{prefix_len}
use Rattle.std.proofs.lemmas.Bool.{cases_Bool, both_ways}
use Rattle.std.proofs.lemmas.List.{take-append-drop, append-nil}
use Rattle.std.proofs.lemmas.List.Folds.{length-prefix_len}
use Rattle.lexer.specs.declared.token.TokenKind.{TokenKind}
use Rattle.lexer.specs.declared.token.Token.{Token}
use Rattle.lexer.specs.declared.lexeme.Lexeme.TheVariants.{Gap, Single}
use Rattle.lexer.specs.Bytes.{is_blank}
use Rattle.lexer.specs.Forms.{has_form, is_sound}
use Rattle.lexer.specs.Parts.{Part, blank, token, part_bytes, part_tokens, IsLongest, BeginsThere, Stands}
use Rattle.lexer.specs.inner.Lexeme.{IsLexeme}
use Rattle.lexer.proofs.ByteLemmas.{stops, run_stops}
use Rattle.lexer.proofs.FormLemmas.{no_form_nil}

-- a token at the front
pub token_lexeme : (kind : TokenKind) (bytes behind rest : List ℕ) (n : ℕ) → rest ≡ bytes ++ behind → BeginsThere kind bytes behind → is_sound kind bytes ≡ true → n ≡ length bytes
    → IsLexeme rest (Single kind n)
token_lexeme kind bytes behind rest n e b s l = record {
  parts = token kind bytes ∷ [];
  behind = behind;
  begins = e;
  stand = ((b, s), tt);
  some = λ none. cc;
  tokens = λ at.
      let T : ℕ → List Token = λ k. record { kind = kind; start = at; «end» = at + k } ∷ [] in
      ap T (sym l);
  long = l ∙ sym (ap length (append-nil bytes));
}

-- a blank or a comment at the front
pub gap_lexeme : (part : Part) (behind rest : List ℕ) (n : ℕ) → rest ≡ part_bytes part ++ behind → Stands part behind → ((at : ℕ) → part_tokens at part ≡ []) → n ≡ length (part_bytes part)
    → IsLexeme rest (Gap n)
gap_lexeme part behind rest n e s none l = record {
  parts = part ∷ [];
  behind = behind;
  begins = e;
  stand = (s, tt);
  some = λ empty. cc;
  tokens = λ at. append-nil (part_tokens at part) ∙ none at;
  long = l ∙ sym (ap length (append-nil (part_bytes part)));
}

pub blank_lexeme : (rest : List ℕ) → 0 < length rest → is_blank (get_or rest 0 0) ≡ true → IsLexeme rest (Gap 1)
blank_lexeme [] l h = absurd (omega arith)
blank_lexeme (b ∷ r) l h = gap_lexeme (blank b) r (b ∷ r) 1 refl h (λ at. refl) refl

-- a class of bytes whose whole runs are the longest token
abbrev pub TakesRuns : (ℕ → Bool) → Type 0
TakesRuns p = (b : ℕ) (bs rest : List ℕ) → p b ≡ true → stops p rest ≡ true → IsLongest (b ∷ bs) rest

-- a whole run with the form of a token is the token there
pub run_begins : (p : ℕ → Bool) → TakesRuns p → (kind : TokenKind) (rest : List ℕ) → has_form kind (take (prefix_len p rest) rest) ≡ true
    → BeginsThere kind (take (prefix_len p rest) rest) (drop (prefix_len p rest) rest)
run_begins p t kind [] h = absurd (both_ways (has_form kind []) (no_form_nil kind) h)
run_begins p t kind (b ∷ r) h =
    let n = prefix_len p r in
    let e : 1 + n ≡ suc n = omega arith in
    elim (cases_Bool (p b)) [
      | inl holds ↦ rw (holds, e) (record { form = rw (holds, e) at h; longest = t b (take n r) (drop n r) holds (run_stops p r) })
      | inr other ↦ absurd (both_ways (has_form kind []) (no_form_nil kind) (rw other at h))
    ]

pub run_lexeme : (p : ℕ → Bool) → TakesRuns p → (kind : TokenKind) (rest : List ℕ) (n : ℕ) → n ≡ prefix_len p rest
    → has_form kind (take n rest) ≡ true → is_sound kind (take n rest) ≡ true → IsLexeme rest (Single kind n)
run_lexeme p t kind rest n e form sound =
    let B : ℕ → Type 0 = λ k. BeginsThere kind (take k rest) (drop k rest) in
    let F : ℕ → Type 0 = λ k. has_form kind (take k rest) ≡ true in
    token_lexeme kind (take n rest) (drop n rest) rest n (sym (take-append-drop n rest))
    (subst B (sym e) (run_begins p t kind rest (subst F e form))) sound (rw e (sym (length-prefix_len p rest)))
