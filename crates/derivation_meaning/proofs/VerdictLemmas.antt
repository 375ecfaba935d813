-- A line is valid or refused for one cause.
use Rattle.std.proofs.Common.{◌≡◌, ◌⊎◌, inl, inr, ℕ, ℤ, Bool, true, false, List, [], ◌∷◌, Option, None, Some, refl, sym, ◌∙◌, true≢false}
use Rattle.std.specs.List.{AllByRecursion}
use Rattle.literals.specs.declared.lit.Lit.{Lit}
use Rattle.ground_model.specs.declared.program.GroundProgram.{GroundProgram}
use Rattle.ground_model.specs.Members.{IsMember}
use Rattle.ground_model.specs.Objective.{objective_of}
use Rattle.ground_model.proofs.Bools.{bool_cases}
use Rattle.ground_model.proofs.MemberLemmas.{property_member}
use Rattle.derivation.specs.declared.line.Line.{Line}
use Rattle.derivation.specs.declared.line.Line.TheVariants as line
use Rattle.derivation_meaning.specs.declared.claim.Claim.{Claim}
use Rattle.derivation_meaning.specs.State.{State, live_nogood, last_cost}
use Rattle.derivation_meaning.specs.Lines.{answer_of, improves, reason_of}
use Rattle.derivation_meaning.specs.Valid.{IsAnswerLine, IsValid, IsValidAs}
use Rattle.derivation_meaning.specs.Refusals.{Cause, AfterEnd, UnknownId, WrongObjective, WrongAnswer, RepeatedAnswer, NotImplied, are_live, NamesValues, HasWrongCost, Stands, causes_before, IsRefused, HasOneVerdict}
use Rattle.derivation_meaning.specs.Laws.{VerdictLaw}
use Rattle.derivation_meaning.proofs.ChainLemmas.{learned_live}

-- NOT BOTH

module _ (program : GroundProgram) (state : State) where
  valid_stands : (l : Line) (cause : Cause) → IsValid program state l → Stands program state l cause → ⊥
  valid_stands l AfterEnd v s = s v.unclaimed
  valid_stands (line.Learned id links lits) UnknownId v s = true≢false (sym (learned_live state id links lits v.valid) ∙ s)
  valid_stands (line.Answer atoms values) WrongObjective v s = true≢false (sym s ∙ v.valid.kind)
  valid_stands (line.Better cost atoms values) WrongObjective v s = wrong s
    where
      wrong : (program.has_objective ≡ false) ⊎ HasWrongCost program state cost atoms values → ⊥
      wrong (inl kind) = true≢false (sym v.valid.kind ∙ kind)
      wrong (inr (named, inl other)) = other v.valid.cost_is
      wrong (inr (named, inr larger)) = true≢false (sym v.valid.smaller ∙ larger)
  valid_stands (line.Answer atoms values) WrongAnswer v s = s v.valid.line
  valid_stands (line.Better cost atoms values) WrongAnswer v s = s v.valid.line
  valid_stands (line.Answer atoms values) RepeatedAnswer v s = v.valid.unlisted s
  valid_stands (line.Header version min max limit) NotImplied v s = s v.valid
  valid_stands (line.Sum c lits) NotImplied v s = s v.valid
  valid_stands (line.Distinct c a b lits) NotImplied v s = s v.valid
  valid_stands (line.Window c a b lits) NotImplied v s = s v.valid
  valid_stands (line.Pair c i j lits) NotImplied v s = s v.valid
  valid_stands (line.Loop atoms lits) NotImplied v s = s v.valid
  valid_stands (line.Hole c lits) NotImplied v s = s v.valid
  valid_stands (line.Learned id links lits) NotImplied v s = s v.valid
  valid_stands line.EndNone NotImplied v s = s v.valid
  valid_stands (line.EndAll count) NotImplied v s = s v.valid
  valid_stands (line.EndBest cost) NotImplied v s = s v.valid
  valid_stands l cause v s = absurd s

-- NOT TWO

abbrev Before : Cause → Cause → Type 0
Before cause other = IsMember (causes_before other) cause

ordered : (cause other : Cause) → (cause ≡ other) ⊎ (Before other cause ⊎ Before cause other)
ordered AfterEnd AfterEnd = inl refl
ordered AfterEnd UnknownId = inr (inr (inl refl))
ordered AfterEnd WrongObjective = inr (inr (inl refl))
ordered AfterEnd WrongAnswer = inr (inr (inl refl))
ordered AfterEnd RepeatedAnswer = inr (inr (inl refl))
ordered AfterEnd NotImplied = inr (inr (inl refl))
ordered UnknownId AfterEnd = inr (inl (inl refl))
ordered UnknownId UnknownId = inl refl
ordered UnknownId WrongObjective = inr (inr (inr (inl refl)))
ordered UnknownId WrongAnswer = inr (inr (inr (inl refl)))
ordered UnknownId RepeatedAnswer = inr (inr (inr (inl refl)))
ordered UnknownId NotImplied = inr (inr (inr (inl refl)))
ordered WrongObjective AfterEnd = inr (inl (inl refl))
ordered WrongObjective UnknownId = inr (inl (inr (inl refl)))
ordered WrongObjective WrongObjective = inl refl
ordered WrongObjective WrongAnswer = inr (inr (inr (inr (inl refl))))
ordered WrongObjective RepeatedAnswer = inr (inr (inr (inr (inl refl))))
ordered WrongObjective NotImplied = inr (inr (inr (inr (inl refl))))
ordered WrongAnswer AfterEnd = inr (inl (inl refl))
ordered WrongAnswer UnknownId = inr (inl (inr (inl refl)))
ordered WrongAnswer WrongObjective = inr (inl (inr (inr (inl refl))))
ordered WrongAnswer WrongAnswer = inl refl
ordered WrongAnswer RepeatedAnswer = inr (inr (inr (inr (inr (inl refl)))))
ordered WrongAnswer NotImplied = inr (inr (inr (inr (inr (inl refl)))))
ordered RepeatedAnswer AfterEnd = inr (inl (inl refl))
ordered RepeatedAnswer UnknownId = inr (inl (inr (inl refl)))
ordered RepeatedAnswer WrongObjective = inr (inl (inr (inr (inl refl))))
ordered RepeatedAnswer WrongAnswer = inr (inl (inr (inr (inr (inl refl)))))
ordered RepeatedAnswer RepeatedAnswer = inl refl
ordered RepeatedAnswer NotImplied = inr (inr (inr (inr (inr (inr (inl refl))))))
ordered NotImplied AfterEnd = inr (inl (inl refl))
ordered NotImplied UnknownId = inr (inl (inr (inl refl)))
ordered NotImplied WrongObjective = inr (inl (inr (inr (inl refl))))
ordered NotImplied WrongAnswer = inr (inl (inr (inr (inr (inl refl)))))
ordered NotImplied RepeatedAnswer = inr (inl (inr (inr (inr (inr (inl refl))))))
ordered NotImplied NotImplied = inl refl

module _ (program : GroundProgram) (state : State) (l : Line) where
  two_causes : (cause other : Cause) → IsRefused program state l cause → IsRefused program state l other → cause ≡ other
  two_causes cause other r s = go (ordered cause other)
    where
      go : (cause ≡ other) ⊎ (Before other cause ⊎ Before cause other) → cause ≡ other
      go (inl same) = same
      go (inr (inl before)) = absurd (property_member (λ earlier. Stands program state l earlier → ⊥) (causes_before cause) other r.first before s.stands)
      go (inr (inr before)) = absurd (property_member (λ earlier. Stands program state l earlier → ⊥) (causes_before other) cause s.first before r.stands)

-- NOT NEITHER

claim_cases : (claim : Option Claim) → (claim ≡ None) ⊎ (claim ≡ None → ⊥)
claim_cases None = inl refl
claim_cases (Some claim) = inr (λ e. absurd (cc e))

module _ (program : GroundProgram) (state : State) where
  abbrev Never : Line → Type 0
  Never l = (cause : Cause) → IsRefused program state l cause → ⊥

  abbrev Invalid : Line → Type 0
  Invalid l = IsValid program state l → ⊥

  module _ (unclaimed : state.claim ≡ None) where
    learned_neither : (id : ℕ) (links : List (Lit × ℕ)) (lits : List Lit) → Invalid (line.Learned id links lits) → Never (line.Learned id links lits) → ⊥
    learned_neither id links lits invalid never = go (bool_cases (are_live state id links))
      where
        go : (are_live state id links ≡ true) ⊎ (are_live state id links ≡ false) → ⊥
        go (inl live) = never NotImplied (record {
          stands = λ v. invalid (record { unclaimed = unclaimed; valid = v });
          first = (λ s. s unclaimed, (λ s. true≢false (sym live ∙ s), (λ s. s, (λ s. s, (λ s. s, tt)))));
        })
        go (inr unknown) = never UnknownId (record { stands = unknown; first = (λ s. s unclaimed, tt) })

    answer_neither : (atoms : List ℕ) (values : List (ℕ × ℤ)) → Invalid (line.Answer atoms values) → Never (line.Answer atoms values) → ⊥
    answer_neither atoms values invalid never = go (bool_cases program.has_objective)
      where
        found : program.has_objective ≡ false → IsAnswerLine program atoms values → ⊥
        found kind is = invalid (record {
          unclaimed = unclaimed;
          valid = record {
            kind = kind;
            line = is;
            unlisted = λ m. never RepeatedAnswer (record {
              stands = m;
              first = (λ s. s unclaimed, (λ s. s, (λ s. true≢false (sym s ∙ kind), (λ s. s is, tt))));
            });
          };
        })

        go : (program.has_objective ≡ true) ⊎ (program.has_objective ≡ false) → ⊥
        go (inl kind) = never WrongObjective (record { stands = kind; first = (λ s. s unclaimed, (λ s. s, tt)) })
        go (inr kind) = never WrongAnswer (record { stands = found kind; first = (λ s. s unclaimed, (λ s. s, (λ s. true≢false (sym s ∙ kind), tt))) })

    better_neither : (cost : ℤ) (atoms : List ℕ) (values : List (ℕ × ℤ)) → Invalid (line.Better cost atoms values) → Never (line.Better cost atoms values) → ⊥
    better_neither cost atoms values invalid never = go (bool_cases program.has_objective)
      where
        cost_right : (program.has_objective ≡ false) ⊎ HasWrongCost program state cost atoms values → ⊥
        cost_right s = never WrongObjective (record { stands = s; first = (λ e. e unclaimed, (λ e. e, tt)) })

        named : IsAnswerLine program atoms values → NamesValues program values
        named is = record { variables = is.variables; valuation = is.answer.valuation }

        found : program.has_objective ≡ true → IsAnswerLine program atoms values → (improves (last_cost state) cost ≡ true) ⊎ (improves (last_cost state) cost ≡ false) → ⊥
        found kind is (inl smaller) =
            cost_right (inr (
              named is,
              inl (λ same. invalid (record {
                unclaimed = unclaimed;
                valid = record { kind = kind; line = is; cost_is = same; smaller = smaller };
              })),
            ))
        found kind is (inr larger) = cost_right (inr (named is, inr larger))

        go : (program.has_objective ≡ true) ⊎ (program.has_objective ≡ false) → ⊥
        go (inl kind) = never WrongAnswer (record {
          stands = λ is. found kind is (bool_cases (improves (last_cost state) cost));
          first = (λ s. s unclaimed, (λ s. s, (cost_right, tt)));
        })
        go (inr kind) = cost_right (inl kind)

    unclaimed_neither : (l : Line) → Invalid l → Never l → ⊥
    unclaimed_neither (line.Learned id links lits) invalid never = learned_neither id links lits invalid never
    unclaimed_neither (line.Answer atoms values) invalid never = answer_neither atoms values invalid never
    unclaimed_neither (line.Better cost atoms values) invalid never = better_neither cost atoms values invalid never
    unclaimed_neither l invalid never = never NotImplied (record {
      stands = λ v. invalid (record { unclaimed = unclaimed; valid = v });
      first = (λ s. s unclaimed, (λ s. s, (λ s. s, (λ s. s, (λ s. s, tt)))));
    })

  neither : (l : Line) → Invalid l → Never l → ⊥
  neither l invalid never = go (claim_cases state.claim)
    where
      go : (state.claim ≡ None) ⊎ (state.claim ≡ None → ⊥) → ⊥
      go (inl unclaimed) = unclaimed_neither unclaimed l invalid never
      go (inr claimed) = never AfterEnd (record { stands = claimed; first = tt })

pub verdict_law : VerdictLaw
verdict_law program state l = record {
  apart = λ cause v r. valid_stands program state l cause v r.stands;
  one = two_causes program state l;
  some = neither program state l;
}
