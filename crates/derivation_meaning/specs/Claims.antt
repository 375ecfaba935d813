-- What the claims say of the constraint stable models of a program and of the answers that were given, and which models remain.
use Rattle.std.specs.Prelude.{◌≡◌, ℕ, ◌≤◌, true, false, ℤ, ◌≤ℤ◌, List, [], ◌∷◌, length, Option, Some}
use Rattle.std.specs.List.{flat_map}
use Rattle.ground_model.specs.declared.answer.Answer.{Answer}
use Rattle.ground_model.specs.declared.program.GroundProgram.{GroundProgram}
use Rattle.ground_model.specs.Members.{IsMember, IsApart, IsListOf}
use Rattle.ground_model.specs.Answers.{IsAnswerOf}
use Rattle.ground_model.specs.Objective.{objective_of}
use Rattle.derivation.specs.declared.line.Line.{Line}
use Rattle.derivation.specs.declared.line.Line.TheVariants as line
use Rattle.derivation_meaning.specs.declared.claim.Claim.{Claim}
use Rattle.derivation_meaning.specs.declared.claim.Claim.TheVariants as claim
use Rattle.derivation_meaning.specs.Found.{last_of, best_of}
use Rattle.derivation_meaning.specs.State.{State, last_cost, last_answer}
use Rattle.derivation_meaning.specs.Lines.{answer_of, improves}

-- the answer that a line gives
abbrev pub answer_in : Line → List Answer
answer_in (line.Answer atoms values) = answer_of atoms values ∷ []
answer_in (line.Better cost atoms values) = answer_of atoms values ∷ []
answer_in other = []

-- the answers of `m` and of `o` lines, in order; valid lines have those of one kind
abbrev pub given_in : List Line → List Answer
given_in lines = flat_map answer_in lines

-- an answer of this objective is given last, and no constraint stable model has a smaller objective
pub record IsOptimum (program : GroundProgram) (last : Option Answer) (cost : ℤ) : Type 0 where
  pub answer : Answer
  pub given : last ≡ Some answer
  pub stable : IsAnswerOf program answer
  pub cost_is : objective_of program answer ≡ cost
  pub least : (other : Answer) → IsAnswerOf program other → cost ≤ℤ objective_of program other

-- these are so many different answers, all that there are
pub record AreAll (program : GroundProgram) (answers : List Answer) (count : ℕ) : Type 0 where
  pub number : length answers ≡ count
  pub apart : IsApart answers
  pub all : IsListOf (IsAnswerOf program) answers

-- what a claim says of the program and of the answers that were given
abbrev pub ClaimHolds : GroundProgram → List Answer → Claim → Type 0
ClaimHolds program answers claim.Nothing = (answer : Answer) → IsAnswerOf program answer → ⊥
ClaimHolds program answers (claim.All count) = AreAll program answers count
ClaimHolds program answers (claim.Best cost) = IsOptimum program (last_of answers) cost

-- which claim there can be of given answers: nothing where there are none, their number without an objective, the objective of the last with one
abbrev pub Fits : GroundProgram → List Answer → Claim → Type 0
Fits program answers claim.Nothing = answers ≡ []
Fits program answers (claim.All count) = (program.has_objective ≡ false) × (1 ≤ count) × (length answers ≡ count)
Fits program answers (claim.Best cost) = (program.has_objective ≡ true) × (best_of program answers ≡ Some cost)

-- a model remains: no `m` line gave it, and its objective is smaller than the last cost
pub record IsRemaining (program : GroundProgram) (state : State) (answer : Answer) : Type 0 where
  pub stable : IsAnswerOf program answer
  pub unlisted : IsMember state.answers answer → ⊥
  pub cheaper : improves (last_cost state) (objective_of program answer) ≡ true

-- the answers that were given are those of the state; with an objective the last of them is its best one
pub record IsGivenIn (program : GroundProgram) (answers : List Answer) (state : State) : Type 0 where
  pub listed : program.has_objective ≡ false → state.answers ≡ answers
  pub unlisted : program.has_objective ≡ true → state.answers ≡ []
  pub last : program.has_objective ≡ true → last_answer state ≡ last_of answers
  pub cost : last_cost state ≡ best_of program answers
