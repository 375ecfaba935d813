-- Why a line is refused: six causes, tried in this order.
use Rattle.std.specs.Prelude.{◌≡◌, ◌⊎◌, ℕ, ℤ, ◌==◌, Bool, true, false, ◌&&◌, List, [], ◌∷◌, map, None}
use Rattle.std.specs.List.{AllByRecursion, list_all, list_any}
use Rattle.literals.specs.declared.lit.Lit.{Lit}
use Rattle.ground_model.specs.declared.program.GroundProgram.{GroundProgram}
use Rattle.ground_model.specs.Members.{IsMember}
use Rattle.ground_model.specs.Answers.{IsValuation}
use Rattle.ground_model.specs.Objective.{objective_of}
use Rattle.derivation.specs.declared.line.Line.{Line}
use Rattle.derivation.specs.declared.line.Line.TheVariants as line
use Rattle.derivation_meaning.specs.State.{State, last_cost}
use Rattle.derivation_meaning.specs.Lines.{answer_of, all_variables, improves, reason_of}
use Rattle.derivation_meaning.specs.Valid.{IsAnswerLine, IsValid, IsValidAs}

-- a claim was made before, an id is unknown, the objective is another, the answer is none, it was given before, or the rule of the line fails
pub data Cause : Type 0 where
  AfterEnd : Cause
  UnknownId : Cause
  WrongObjective : Cause
  WrongAnswer : Cause
  RepeatedAnswer : Cause
  NotImplied : Cause

-- the id names a live nogood
abbrev pub is_live : State → ℕ → Bool
is_live state id = list_any (λ entry. entry.id == id) state.live

-- each id that the line names is live
abbrev pub are_live : State → ℕ → List (Lit × ℕ) → Bool
are_live state id links = is_live state id && list_all (λ link. is_live state link.1) links

-- the line names one value within the ends for each variable
pub record NamesValues (program : GroundProgram) (values : List (ℕ × ℤ)) : Type 0 where
  pub variables : map (λ value. value.0) values ≡ all_variables program
  pub valuation : IsValuation program (map (λ value. value.1) values)

-- the cost is not the objective of the values, or not smaller than the last
abbrev pub HasWrongCost : GroundProgram → State → ℤ → List ℕ → List (ℕ × ℤ) → Type 0
HasWrongCost program state cost atoms values =
    NamesValues program values × ((cost ≡ objective_of program (answer_of atoms values) → ⊥) ⊎ (improves (last_cost state) cost ≡ false))

-- the cause stands, those before it aside
abbrev pub Stands : GroundProgram → State → Line → Cause → Type 0
Stands program state line AfterEnd = state.claim ≡ None → ⊥
Stands program state (line.Learned id links lits) UnknownId = are_live state id links ≡ false
Stands program state (line.Answer atoms values) WrongObjective = program.has_objective ≡ true
Stands program state (line.Better cost atoms values) WrongObjective = (program.has_objective ≡ false) ⊎ HasWrongCost program state cost atoms values
Stands program state (line.Answer atoms values) WrongAnswer = IsAnswerLine program atoms values → ⊥
Stands program state (line.Better cost atoms values) WrongAnswer = IsAnswerLine program atoms values → ⊥
Stands program state (line.Answer atoms values) RepeatedAnswer = IsMember state.answers (answer_of atoms values)
Stands program state (line.Answer atoms values) NotImplied = ⊥
Stands program state (line.Better cost atoms values) NotImplied = ⊥
Stands program state line NotImplied = IsValidAs program state (reason_of line) line → ⊥
Stands program state line cause = ⊥

-- the causes that are tried before this one
abbrev pub causes_before : Cause → List Cause
causes_before AfterEnd = []
causes_before UnknownId = AfterEnd ∷ []
causes_before WrongObjective = AfterEnd ∷ UnknownId ∷ []
causes_before WrongAnswer = AfterEnd ∷ UnknownId ∷ WrongObjective ∷ []
causes_before RepeatedAnswer = AfterEnd ∷ UnknownId ∷ WrongObjective ∷ WrongAnswer ∷ []
causes_before NotImplied = AfterEnd ∷ UnknownId ∷ WrongObjective ∷ WrongAnswer ∷ RepeatedAnswer ∷ []

-- the line is refused for this cause: the first that stands
pub record IsRefused (program : GroundProgram) (state : State) (line : Line) (cause : Cause) : Type 0 where
  pub stands : Stands program state line cause
  pub first : AllByRecursion (λ earlier. Stands program state line earlier → ⊥) (causes_before cause)

-- a line is valid or refused for one cause: never both, never for two, and not neither
pub record HasOneVerdict (program : GroundProgram) (state : State) (line : Line) : Type 0 where
  pub apart : (cause : Cause) → IsValid program state line → IsRefused program state line cause → ⊥
  pub one : (cause other : Cause) → IsRefused program state line cause → IsRefused program state line other → cause ≡ other
  pub some : (IsValid program state line → ⊥) → ((cause : Cause) → IsRefused program state line cause → ⊥) → ⊥
