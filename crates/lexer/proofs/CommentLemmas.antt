-- Comments, read from their `%`.
use Rattle.std.proofs.Common.{◌≡◌, ℕ, ◌+◌, ◌-◌, ◌<◌, ◌≤◌, true, false, not, List, [], ◌∷◌, ◌++◌, length, take, drop, get_or, Some, None, refl, sym, ap, subst, ◌∙◌, inl, inr, arith, append_assoc, length-append}
use Rattle.std.specs.Bool.{◌==◌}
use Rattle.std.specs.declared.option.Option.{Option}
use Rattle.std.specs.List.{position_or_len, before_first}
use Rattle.std.proofs.lemmas.Bool.{and_parts, cases_Bool, eqb-true, cond-false}
use Rattle.std.proofs.lemmas.List.{take-append-drop, take_rest, drop_more}
use Rattle.std.proofs.lemmas.List.Folds.{length-prefix_len}
use Rattle.lexer.specs.declared.token.LexCause.TheVariants.{OpenComment}
use Rattle.lexer.specs.declared.lexeme.Lexeme.TheVariants.{Gap}
use Rattle.lexer.specs.Bytes.{is_line_feed}
use Rattle.lexer.specs.Parts.{comment, line_comment, begins_star, begins_close, close_from}
use Rattle.lexer.specs.Faults.{HasFault}
use Rattle.lexer.specs.inner.Lexeme.{IsLexeme, begins_comment}
use Rattle.lexer.proofs.LexemeLemmas.{gap_lexeme}

-- the inside that was found, and what stands behind its end
pub record Closed (more : ℕ) (xs : List ℕ) (n : ℕ) : Type 0 where
  pub inside : List ℕ
  pub behind : List ℕ
  pub whole : xs ≡ inside ++ 42 ∷ 37 ∷ behind
  pub is : n ≡ more + length inside

close_here : (b : ℕ) (r : List ℕ) (more n : ℕ) → begins_close (b ∷ r) ≡ true → n ≡ more → Closed more (b ∷ r) n
close_here b [] more n h e = cc
close_here b (c ∷ r) more n h e =
    let parts = and_parts (b == 42) (c == 37) h in
    record {
      inside = [];
      behind = r;
      whole = ap (λ x. x ∷ c ∷ r) (eqb-true b 42 parts.0) ∙ ap (λ x. 42 ∷ x ∷ r) (eqb-true c 37 parts.1);
      is = omega arith;
    }

pub close_found : (more : ℕ) (xs : List ℕ) (n : ℕ) → close_from more xs ≡ Some n → Closed more xs n
close_found more [] n h = cc
close_found more (b ∷ r) n h =
    elim (cases_Bool (begins_close (b ∷ r))) [
      | inl holds ↦
          let e : Some more ≡ Some n = rw holds at h in
          let same : more ≡ n = cc in
          close_here b r more n holds (sym same)
      | inr other ↦
          let c = close_found (more + 1) r n (rw other at h) in
          let i = c.is in
          record { inside = b ∷ c.inside; behind = c.behind; whole = ap (λ xs. b ∷ xs) c.whole; is = omega arith }
    ]

-- the bytes behind the first two
pub behind_two : (b c : ℕ) (r : List ℕ) → take (length (b ∷ c ∷ r) - 2) (drop 2 (b ∷ c ∷ r)) ≡ r
behind_two b c r = take_rest (b ∷ c ∷ r) 2

pub comment_lexeme : (rest : List ℕ) (n : ℕ) → begins_comment rest ≡ true → close_from 0 (take (length rest - 2) (drop 2 rest)) ≡ Some n → IsLexeme rest (Gap (n + 4))
comment_lexeme [] n p h = cc
comment_lexeme (b ∷ []) n p h = cc
comment_lexeme (b ∷ c ∷ r) n p h =
    let S : List ℕ → Type 0 = λ xs. close_from 0 xs ≡ Some n in
    let inner : close_from 0 r ≡ Some n = subst S (behind_two b c r) h in
    let f = close_found 0 r n inner in
    let parts = and_parts (b == 37) (c == 42) p in
    let two : b ∷ c ∷ r ≡ 37 ∷ 42 ∷ r = ap (λ x. x ∷ c ∷ r) (eqb-true b 37 parts.0) ∙ ap (λ x. 37 ∷ x ∷ r) (eqb-true c 42 parts.1) in
    let same : n ≡ length f.inside = (let i = f.is in omega arith) in
    let stands : close_from 0 (f.inside ++ 42 ∷ 37 ∷ f.behind) ≡ Some (length f.inside) = subst S f.whole inner ∙ ap Some same in
    gap_lexeme (comment f.inside) f.behind (b ∷ c ∷ r) (n + 4)
    (two ∙ ap (λ xs. 37 ∷ 42 ∷ xs) (f.whole ∙ sym (append_assoc f.inside (42 ∷ 37 ∷ []) f.behind))) stands (λ at. refl)
    (let long : length (f.inside ++ 42 ∷ 37 ∷ []) ≡ length f.inside + 2 = length-append f.inside (42 ∷ 37 ∷ []) in omega arith)

pub comment_fits : (rest : List ℕ) (n : ℕ) → begins_comment rest ≡ true → close_from 0 (take (length rest - 2) (drop 2 rest)) ≡ Some n → n + 4 ≤ length rest
comment_fits [] n p h = cc
comment_fits (b ∷ []) n p h = cc
comment_fits (b ∷ c ∷ r) n p h =
    let S : List ℕ → Type 0 = λ xs. close_from 0 xs ≡ Some n in
    let f = close_found 0 r n (subst S (behind_two b c r) h) in
    let i = f.is in
    let long : length r ≡ length f.inside + length (42 ∷ 37 ∷ f.behind) = ap length f.whole ∙ length-append f.inside (42 ∷ 37 ∷ f.behind) in
    omega arith

pub comment_two : (rest : List ℕ) → begins_comment rest ≡ true → 2 ≤ length rest
comment_two [] p = cc
comment_two (b ∷ []) p = cc
comment_two (b ∷ c ∷ r) p = omega arith

pub comment_fault : (rest : List ℕ) → begins_comment rest ≡ true → close_from 0 (take (length rest - 2) (drop 2 rest)) ≡ None → HasFault OpenComment 0 rest
comment_fault [] p h = cc
comment_fault (b ∷ []) p h = cc
comment_fault (b ∷ c ∷ r) p h =
    let S : List ℕ → Type 0 = λ xs. close_from 0 xs ≡ None in
    let parts = and_parts (b == 37) (c == 42) p in (
      refl,
      record {
        inside = r;
        begins = ap (λ x. x ∷ c ∷ r) (eqb-true b 37 parts.0) ∙ ap (λ x. 37 ∷ x ∷ r) (eqb-true c 42 parts.1);
        none = subst S (behind_two b c r) h;
      },
    )

no_star : (r : List ℕ) → begins_comment (37 ∷ r) ≡ false → begins_star r ≡ false
no_star [] h = refl
no_star (c ∷ r) h = h

pub line_lexeme : (rest : List ℕ) (n : ℕ) → 0 < length rest → get_or rest 0 0 ≡ 37 → begins_comment rest ≡ false → n ≡ position_or_len is_line_feed rest → IsLexeme rest (Gap n)
line_lexeme [] n l q p e = absurd (omega arith)
line_lexeme (b ∷ r) n l q p e =
    let k : ℕ = position_or_len is_line_feed r in
    let C : ℕ → Type 0 = λ x. begins_comment (x ∷ r) ≡ false in
    let L : ℕ → Type 0 = λ x. n ≡ position_or_len is_line_feed (x ∷ r) in
    let long : n ≡ 1 + k = subst L q e in
    let split : take k r ++ drop k r ≡ r = take-append-drop k r in
    let B : List ℕ → Type 0 = λ xs. begins_star xs ≡ false in
    let F : List ℕ → Type 0 = λ xs. before_first is_line_feed xs ≡ take k r in
    let inside : length (take k r) ≡ k = length-prefix_len (λ x. not (is_line_feed x)) r in
    gap_lexeme (line_comment (take k r)) (drop k r) (b ∷ r) n (ap (λ x. x ∷ r) q ∙ ap (λ xs. 37 ∷ xs) (sym split))
    (subst B (sym split) (no_star r (subst C q p)), subst F (sym split) refl) (λ at. refl) (omega arith)

-- one byte on in the search for `*%`
pub close_next : (xs : List ℕ) (i : ℕ) (target : Option ℕ) → i < length xs → close_from i (drop i xs) ≡ target → begins_close (take (length xs - i) (drop i xs)) ≡ false
    → close_from (i + 1) (drop (i + 1) xs) ≡ target
close_next xs i target l found no_close =
    let d : ℕ = get_or xs i 0 in
    let r : List ℕ = drop (i + 1) xs in
    let split : drop i xs ≡ d ∷ r = drop_more xs i 0 l in
    let B : List ℕ → Type 0 = λ ys. begins_close ys ≡ false in
    let C : List ℕ → Type 0 = λ ys. close_from i ys ≡ target in
    let here : begins_close (d ∷ r) ≡ false = subst B split (subst B (take_rest xs i) no_close) in
    sym (cond-false (begins_close (d ∷ r)) (Some i) (close_from (i + 1) r) here) ∙ subst C split found
