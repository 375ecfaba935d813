-- Lists of lines, one after another.
use Rattle.std.proofs.Common.{◌≡◌, ◌↔◌, ◌<◌, ◌+◌, ℕ, List, [], ◌∷◌, ◌++◌, drop, length, slice_index_or, true, false, Option, None, Some, MatchOption, refl, sym, ◌∙◌, ap, subst}
use Rattle.literals.specs.declared.lit.Lit.{Lit}
use Rattle.ground_model.specs.declared.answer.Answer.{Answer}
use Rattle.ground_model.specs.declared.program.GroundProgram.{GroundProgram}
use Rattle.ground_model.proofs.Products.{drop_next}
use Rattle.derivation.specs.declared.line.Line.{Line}
use Rattle.derivation_meaning.specs.declared.claim.Claim.{Claim}
use Rattle.derivation_meaning.specs.State.{State, start}
use Rattle.derivation_meaning.specs.Lines.{answer_nogood}
use Rattle.derivation_meaning.specs.Valid.{IsValid, after, with_nogood, with_answer}
use Rattle.derivation_meaning.specs.Acceptance.{AreValid, after_all, IsAccepted}

pub line_next : (lines : List Line) (i : ℕ) (line : Line) → i < length lines → line ≡ slice_index_or lines i line → drop i lines ≡ line ∷ drop (i + 1) lines
line_next lines i line below at = drop_next lines i line below ∙ ap (λ x. x ∷ drop (i + 1) lines) (sym at)

pub answered : (program : GroundProgram) (state next : State) (nogood : List Lit) (answer given : Answer) (answers : List Answer)
    → next ≡ with_nogood state nogood true false → nogood ≡ answer_nogood program answer → answer ≡ given → answers ≡ next.answers ++ answer ∷ []
    → record next { answers = answers } ≡ with_answer program state given
answered program state next nogood answer given answers e n a w =
    ap (λ all. record next { answers = all }) w
    ∙ ap (λ (s : State). record s { answers = s.answers ++ answer ∷ [] }) (e ∙ ap (λ list. with_nogood state list true false) n)
    ∙ ap (with_answer program state) a

-- the lines from here on are valid exactly where all are
abbrev pub AsAll : GroundProgram → List Line → State → List Line → Type 0
AsAll program lines state rest = AreValid program state rest ↔ AreValid program (start program) lines

-- the state behind them is that behind all
abbrev pub EndsAsAll : GroundProgram → List Line → State → List Line → Type 0
EndsAsAll program lines state rest = after_all program state rest ≡ after_all program (start program) lines

pub first_valid : (program : GroundProgram) (lines : List Line) (first : State) → first ≡ start program → AsAll program lines first lines
first_valid program lines first e = (λ v. subst (λ s. AreValid program s lines) e v, λ v. subst (λ s. AreValid program s lines) (sym e) v)

pub first_after : (program : GroundProgram) (lines : List Line) (first : State) → first ≡ start program → EndsAsAll program lines first lines
first_after program lines first e = ap (λ s. after_all program s lines) e

module _ (program : GroundProgram) (lines : List Line) (now : State) (line : Line) (here rest : List Line) (is : here ≡ line ∷ rest) where
  pub kept_valid : (next : State) → IsValid program now line → next ≡ after program now line → AsAll program lines now here → AsAll program lines next rest
  kept_valid next valid e f =
      let g : AsAll program lines now (line ∷ rest) = subst (AsAll program lines now) is f in
      (λ v. g.0 (valid, subst (λ s. AreValid program s rest) e v), λ v. subst (λ s. AreValid program s rest) (sym e) (g.1 v).1)

  pub kept_after : (next : State) → next ≡ after program now line → EndsAsAll program lines now here → EndsAsAll program lines next rest
  kept_after next e f = ap (λ s. after_all program s rest) e ∙ subst (EndsAsAll program lines now) is f

  pub refused : (IsValid program now line → ⊥) → AsAll program lines now here → (c : Claim) → IsAccepted program lines c → ⊥
  refused invalid f c accepted =
      let g : AsAll program lines now (line ∷ rest) = subst (AsAll program lines now) is f in
      invalid (g.1 accepted.valid).0

pub claimed : (program : GroundProgram) (lines here : List Line) (now : State) → here ≡ [] → AsAll program lines now here → EndsAsAll program lines now here
    → MatchOption now.claim ((c : Claim) → IsAccepted program lines c → ⊥) (λ c. IsAccepted program lines c)
claimed program lines here now is f g = go now.claim refl
  where
    valid : AreValid program (start program) lines
    valid = f.0 (subst (AreValid program now) (sym is) tt)

    end : now.claim ≡ (after_all program (start program) lines).claim
    end = ap (λ (s : State). s.claim) (subst (EndsAsAll program lines now) is g)

    go : (claim : Option Claim) → now.claim ≡ claim → MatchOption claim ((c : Claim) → IsAccepted program lines c → ⊥) (λ c. IsAccepted program lines c)
    go None e = λ c accepted. absurd (cc (sym e, end, accepted.claimed))
    go (Some c) e = record { valid = valid; claimed = sym end ∙ e }
