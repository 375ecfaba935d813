-- Which line is valid in which state, and the state after it.
use Rattle.std.specs.Prelude.{◌≡◌, ℕ, ◌+◌, ◌≤◌, Bool, true, false, ℤ, List, [], ◌∷◌, ◌++◌, map, length, Option, None, Some}
use Rattle.std.specs.List.{filter}
use Rattle.literals.specs.declared.lit.Lit.{Lit}
use Rattle.ground_model.specs.declared.answer.Answer.{Answer}
use Rattle.ground_model.specs.declared.program.GroundProgram.{GroundProgram}
use Rattle.ground_model.specs.Members.{IsMember}
use Rattle.ground_model.specs.Answers.{IsAnswerOf}
use Rattle.ground_model.specs.Objective.{objective_of}
use Rattle.linear_normal.specs.Numbering.{numbering}
use Rattle.linear_normal.specs.Steps.{is_valid}
use Rattle.derivation.specs.declared.line.Line.{Line}
use Rattle.derivation.specs.declared.line.Line.TheVariants as line
use Rattle.derivation_meaning.specs.declared.claim.Claim.TheVariants as claim
use Rattle.derivation_meaning.specs.State.{State, live_nogood, holds_empty, last_cost}
use Rattle.derivation_meaning.specs.Lines.{answer_of, all_variables, answer_nogood, improves, Shown, reason_of, chained}

-- VALID

-- an `s`, `d`, `g`, `u` or `w` line: its rule shows that its literals are a nogood
abbrev pub IsShown : GroundProgram → State → Shown → Type 0
IsShown program state shown = is_valid program (numbering program) (last_cost state) shown.lits shown.step ≡ true

-- an `r` line: the chain's resolutions give its list
abbrev pub IsLearned : State → ℕ → List (Lit × ℕ) → List Lit → Type 0
IsLearned state id links lits = chained state (live_nogood state id) links ≡ Some lits

-- a line names one value for each variable, and its answer is a constraint stable model
pub record IsAnswerLine (program : GroundProgram) (atoms : List ℕ) (values : List (ℕ × ℤ)) : Type 0 where
  pub variables : map (λ value. value.0) values ≡ all_variables program
  pub answer : IsAnswerOf program (answer_of atoms values)

-- an `m` line: an answer that was not given before, of a program without an objective
pub record IsNewAnswer (program : GroundProgram) (state : State) (atoms : List ℕ) (values : List (ℕ × ℤ)) : Type 0 where
  pub kind : program.has_objective ≡ false
  pub line : IsAnswerLine program atoms values
  pub unlisted : IsMember state.answers (answer_of atoms values) → ⊥

-- an `o` line: an answer with its objective, smaller than the last one
pub record IsBetterAnswer (program : GroundProgram) (state : State) (cost : ℤ) (atoms : List ℕ) (values : List (ℕ × ℤ)) : Type 0 where
  pub kind : program.has_objective ≡ true
  pub line : IsAnswerLine program atoms values
  pub cost_is : cost ≡ objective_of program (answer_of atoms values)
  pub smaller : improves (last_cost state) cost ≡ true

-- a `q` line: the empty nogood is held, and what is claimed is what was given
pub record IsEnd (state : State) (Given : Type 0) : Type 0 where
  pub empty : holds_empty state ≡ true
  pub given : Given

-- the lines that are no reasons; a header stands before all lines alone
abbrev pub IsValidOther : GroundProgram → State → Line → Type 0
IsValidOther program state (line.Learned id links lits) = IsLearned state id links lits
IsValidOther program state (line.Answer atoms values) = IsNewAnswer program state atoms values
IsValidOther program state (line.Better cost atoms values) = IsBetterAnswer program state cost atoms values
IsValidOther program state line.EndNone = IsEnd state ((state.answers ≡ []) × (state.best ≡ None))
IsValidOther program state (line.EndAll count) = IsEnd state ((1 ≤ count) × (length state.answers ≡ count))
IsValidOther program state (line.EndBest cost) = IsEnd state (last_cost state ≡ Some cost)
IsValidOther program state other = ⊥

abbrev pub IsValidAs : GroundProgram → State → Option Shown → Line → Type 0
IsValidAs program state (Some shown) line = IsShown program state shown
IsValidAs program state None line = IsValidOther program state line

-- a line is valid in a state in which nothing was claimed yet
pub record IsValid (program : GroundProgram) (state : State) (line : Line) : Type 0 where
  pub unclaimed : state.claim ≡ None
  pub valid : IsValidAs program state (reason_of line) line

-- AFTER A LINE

-- one more nogood, with the next id
abbrev pub with_nogood : State → List Lit → Bool → Bool → State
with_nogood state nogood is_held is_learned = record state {
  next = state.next + 1;
  live = state.live ++ record { id = state.next; nogood = nogood; is_held = is_held; is_learned = is_learned } ∷ [];
}

-- the nogoods that are held alone
abbrev pub held_alone : State → State
held_alone state = record state { live = filter (λ entry. entry.is_held) state.live }

-- one more answer, and the nogood that it leaves
abbrev pub with_answer : GroundProgram → State → Answer → State
with_answer program state answer =
    record (with_nogood state (answer_nogood program answer) true false) { answers = state.answers ++ answer ∷ [] }

abbrev pub after_other : GroundProgram → State → Line → State
after_other program state (line.Learned id links lits) = with_nogood (held_alone state) lits true true
after_other program state (line.Answer atoms values) = with_answer program state (answer_of atoms values)
after_other program state (line.Better cost atoms values) = record state { best = Some (record { cost = cost; answer = answer_of atoms values }) }
after_other program state line.EndNone = record state { claim = Some claim.Nothing }
after_other program state (line.EndAll count) = record state { claim = Some (claim.All count) }
after_other program state (line.EndBest cost) = record state { claim = Some (claim.Best cost) }
after_other program state other = state

abbrev pub after_as : GroundProgram → State → Option Shown → Line → State
after_as program state (Some shown) line = with_nogood state shown.lits false false
after_as program state None line = after_other program state line

-- the state after a valid line
abbrev pub after : GroundProgram → State → Line → State
after program state line = after_as program state (reason_of line) line
