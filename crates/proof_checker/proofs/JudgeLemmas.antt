-- A judgement from its parts.
use Rattle.std.proofs.Common.{◌≡◌, ◌⊎◌, inl, inr, ℕ, ℤ, true, false, List, None, Result, Ok, Err, OnOk, IfErr, refl, sym, ◌∙◌, subst, true≢false}
use Rattle.literals.specs.declared.lit.Lit.{Lit}
use Rattle.ground_model.specs.declared.program.GroundProgram.{GroundProgram}
use Rattle.ground_model.specs.Members.{IsMember}
use Rattle.ground_model.specs.Objective.{objective_of}
use Rattle.derivation.specs.declared.line.Line.{Line}
use Rattle.derivation.specs.declared.line.Line.TheVariants as l
use Rattle.derivation_meaning.specs.State.{State, last_cost}
use Rattle.derivation_meaning.specs.Lines.{answer_of, improves, reason_of}
use Rattle.derivation_meaning.specs.Valid.{IsAnswerLine, IsBetterAnswer, IsLearned, IsNewAnswer, IsValid, IsValidAs}
use Rattle.derivation_meaning.specs.Refusals.{AfterEnd, UnknownId, WrongObjective, WrongAnswer, RepeatedAnswer, NotImplied, NamesValues, HasWrongCost, IsRefused}
use Rattle.derivation_meaning.proofs.VerdictLemmas.{verdict_law}
use Rattle.proof_checker.specs.declared.refused.Refused.{Refused}
use Rattle.proof_checker.specs.declared.refused.Refused.TheVariants as why
use Rattle.proof_checker.specs.Checking.{IsRefusedFor}
use Rattle.proof_checker.specs.inner.Judging.{IsRuled, IsChainRefused}

module _ (program : GroundProgram) (state : State) where
  -- CLAIMED

  pub after_end : (line : Line) → (state.claim ≡ None → ⊥) → IsRefused program state line AfterEnd
  after_end line claimed = record { stands = claimed; first = tt }

  -- RULED

  pub ruled_valid : (line : Line) → state.claim ≡ None → IsValidAs program state (reason_of line) line → IsValid program state line
  ruled_valid line unclaimed v = record { unclaimed = unclaimed; valid = v }

  pub ruled_refused : (line : Line) → IsRuled line → state.claim ≡ None → (IsValidAs program state (reason_of line) line → ⊥) → IsRefused program state line NotImplied
  ruled_refused (l.Learned id links lits) ruled unclaimed never = absurd ruled
  ruled_refused (l.Answer atoms values) ruled unclaimed never = absurd ruled
  ruled_refused (l.Better cost atoms values) ruled unclaimed never = absurd ruled
  ruled_refused line ruled unclaimed never = record { stands = never; first = (λ s. s unclaimed, (λ s. s, (λ s. s, (λ s. s, (λ s. s, tt))))) }

  -- CHAINS

  pub chain_refused : (id : ℕ) (links : List (Lit × ℕ)) (lits : List Lit) → state.claim ≡ None → (cause : Refused)
      → IsChainRefused state id links lits cause → IsRefusedFor program state (l.Learned id links lits) cause
  chain_refused id links lits unclaimed why.AfterEnd e = absurd e
  chain_refused id links lits unclaimed why.UnknownId e = record { stands = e; first = (λ s. s unclaimed, tt) }
  chain_refused id links lits unclaimed why.WrongObjective e = absurd e
  chain_refused id links lits unclaimed why.WrongAnswer e = absurd e
  chain_refused id links lits unclaimed why.RepeatedAnswer e = absurd e
  chain_refused id links lits unclaimed why.NotImplied e =
      record { stands = e.1; first = (λ s. s unclaimed, (λ s. true≢false (sym e.0 ∙ s), (λ s. s, (λ s. s, (λ s. s, tt))))) }
  chain_refused id links lits unclaimed why.Memory e = tt

  -- ANSWERS

  module _ (atoms : List ℕ) (values : List (ℕ × ℤ)) (unclaimed : state.claim ≡ None) where
    pub answer_wrong_kind : program.has_objective ≡ true → IsRefused program state (l.Answer atoms values) WrongObjective
    answer_wrong_kind kind = record { stands = kind; first = (λ s. s unclaimed, (λ s. s, tt)) }

    pub answer_wrong : program.has_objective ≡ false → (IsAnswerLine program atoms values → ⊥) → IsRefused program state (l.Answer atoms values) WrongAnswer
    answer_wrong kind never = record { stands = never; first = (λ s. s unclaimed, (λ s. s, (λ s. true≢false (sym s ∙ kind), tt))) }

    pub answer_repeated : program.has_objective ≡ false → IsAnswerLine program atoms values → IsMember state.answers (answer_of atoms values)
        → IsRefused program state (l.Answer atoms values) RepeatedAnswer
    answer_repeated kind is m = record { stands = m; first = (λ s. s unclaimed, (λ s. s, (λ s. true≢false (sym s ∙ kind), (λ s. s is, tt)))) }

    pub answer_new : program.has_objective ≡ false → IsAnswerLine program atoms values → (IsMember state.answers (answer_of atoms values) → ⊥)
        → IsNewAnswer program state atoms values
    answer_new kind is unlisted = record { kind = kind; line = is; unlisted = unlisted }

    module _ (cost : ℤ) where
      pub better_wrong_kind : program.has_objective ≡ false → IsRefused program state (l.Better cost atoms values) WrongObjective
      better_wrong_kind kind = record { stands = inl kind; first = (λ s. s unclaimed, (λ s. s, tt)) }

      -- the cost is right, or there is none to compare it with
      pub better_wrong : program.has_objective ≡ true → (HasWrongCost program state cost atoms values → ⊥) → (IsAnswerLine program atoms values → ⊥)
          → IsRefused program state (l.Better cost atoms values) WrongAnswer
      better_wrong kind right never = record { stands = never; first = (λ s. s unclaimed, (λ s. s, (cost_right, tt))) }
        where
          cost_right : (program.has_objective ≡ false) ⊎ HasWrongCost program state cost atoms values → ⊥
          cost_right (inl other) = true≢false (sym kind ∙ other)
          cost_right (inr wrong) = right wrong

      pub unnamed_wrong : program.has_objective ≡ true → (NamesValues program values → ⊥) → IsRefused program state (l.Better cost atoms values) WrongAnswer
      unnamed_wrong kind never = better_wrong kind (λ wrong. never wrong.0) (λ is. never (record { variables = is.variables; valuation = is.answer.valuation }))

      pub better_wrong_cost : NamesValues program values → (cost ≡ objective_of program (answer_of atoms values) → ⊥) ⊎ (improves (last_cost state) cost ≡ false)
          → IsRefused program state (l.Better cost atoms values) WrongObjective
      better_wrong_cost named wrong = record { stands = inr (named, wrong); first = (λ s. s unclaimed, (λ s. s, tt)) }

      pub better_no_model : program.has_objective ≡ true → cost ≡ objective_of program (answer_of atoms values) → improves (last_cost state) cost ≡ true
          → (IsAnswerLine program atoms values → ⊥) → IsRefused program state (l.Better cost atoms values) WrongAnswer
      better_no_model kind same smaller never = better_wrong kind wrong never
        where
          wrong : HasWrongCost program state cost atoms values → ⊥
          wrong (named, inl other) = other same
          wrong (named, inr larger) = true≢false (sym smaller ∙ larger)

      pub better_valid : program.has_objective ≡ true → IsAnswerLine program atoms values → cost ≡ objective_of program (answer_of atoms values)
          → improves (last_cost state) cost ≡ true → IsBetterAnswer program state cost atoms values
      better_valid kind is same smaller = record { kind = kind; line = is; cost_is = same; smaller = smaller }

  -- NEVER BOTH

  pub refused_invalid : (line : Line) (cause : Refused) → (cause ≡ why.Memory → ⊥) → IsRefusedFor program state line cause → IsValid program state line → ⊥
  refused_invalid line why.AfterEnd other r v = (verdict_law program state line).apart AfterEnd v r
  refused_invalid line why.UnknownId other r v = (verdict_law program state line).apart UnknownId v r
  refused_invalid line why.WrongObjective other r v = (verdict_law program state line).apart WrongObjective v r
  refused_invalid line why.WrongAnswer other r v = (verdict_law program state line).apart WrongAnswer v r
  refused_invalid line why.RepeatedAnswer other r v = (verdict_law program state line).apart RepeatedAnswer v r
  refused_invalid line why.NotImplied other r v = (verdict_law program state line).apart NotImplied v r
  refused_invalid line why.Memory other r v = other refl

  -- WHAT A PART SAYS OF THE LINE

  abbrev pub IsJudged : Line → Result (Unit {0}) Refused → Type 0
  IsJudged line result = OnOk result (IsValid program state line) × IfErr result (λ cause. IsRefusedFor program state line cause)

  pub learned_judged : (line : Line) (id : ℕ) (links : List (Lit × ℕ)) (lits : List Lit) (result : Result (Unit {0}) Refused) → line ≡ l.Learned id links lits → state.claim ≡ None
      → OnOk result (IsLearned state id links lits) → IfErr result (λ cause. IsChainRefused state id links lits cause) → IsJudged line result
  learned_judged line id links lits result is unclaimed valid refused = subst (λ (other : Line). IsJudged other result) (sym is) (go result valid refused)
    where
      go : (result : Result (Unit {0}) Refused) → OnOk result (IsLearned state id links lits) → IfErr result (λ cause. IsChainRefused state id links lits cause)
          → IsJudged (l.Learned id links lits) result
      go (Ok done) valid refused = (record { unclaimed = unclaimed; valid = valid }, tt)
      go (Err cause) valid refused = (tt, chain_refused id links lits unclaimed cause refused)

  pub answer_judged : (line : Line) (atoms : List ℕ) (values : List (ℕ × ℤ)) (result : Result (Unit {0}) Refused) → line ≡ l.Answer atoms values → state.claim ≡ None
      → OnOk result (IsNewAnswer program state atoms values) → IfErr result (λ cause. IsRefusedFor program state (l.Answer atoms values) cause) → IsJudged line result
  answer_judged line atoms values result is unclaimed valid refused = subst (λ (other : Line). IsJudged other result) (sym is) (go result valid, refused)
    where
      go : (result : Result (Unit {0}) Refused) → OnOk result (IsNewAnswer program state atoms values) → OnOk result (IsValid program state (l.Answer atoms values))
      go (Ok done) valid = record { unclaimed = unclaimed; valid = valid }
      go (Err cause) valid = tt

  pub better_judged : (line : Line) (cost : ℤ) (atoms : List ℕ) (values : List (ℕ × ℤ)) (result : Result (Unit {0}) Refused) → line ≡ l.Better cost atoms values
      → state.claim ≡ None → OnOk result (IsBetterAnswer program state cost atoms values)
      → IfErr result (λ cause. IsRefusedFor program state (l.Better cost atoms values) cause) → IsJudged line result
  better_judged line cost atoms values result is unclaimed valid refused = subst (λ (other : Line). IsJudged other result) (sym is) (go result valid, refused)
    where
      go : (result : Result (Unit {0}) Refused) → OnOk result (IsBetterAnswer program state cost atoms values) → OnOk result (IsValid program state (l.Better cost atoms values))
      go (Ok done) valid = record { unclaimed = unclaimed; valid = valid }
      go (Err cause) valid = tt
