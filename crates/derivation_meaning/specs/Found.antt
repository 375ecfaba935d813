-- What a search may have found of a program.
use Rattle.std.specs.Prelude.{◌≡◌, true, ◌<ℤ◌, ℤ, List, [], ◌∷◌, Option, None, if◌then◌else◌}
use Rattle.std.specs.Option.{option_map}
use Rattle.std.specs.List.{AllByRecursion, last_or}
use Rattle.ground_model.specs.declared.answer.Answer.{Answer}
use Rattle.ground_model.specs.declared.program.GroundProgram.{GroundProgram}
use Rattle.ground_model.specs.Members.{IsApart}
use Rattle.ground_model.specs.Answers.{IsAnswerOf}
use Rattle.ground_model.specs.Objective.{objective_of}

-- each answer has a smaller objective than the one before it
abbrev pub Improve : GroundProgram → List Answer → Type 0
Improve program [] = Unit {0}
Improve program (answer ∷ []) = Unit {0}
Improve program (answer ∷ next ∷ rest) = (objective_of program next <ℤ objective_of program answer) × Improve program (next ∷ rest)

-- different constraint stable models, with an objective improving ones
pub record AreFound (program : GroundProgram) (answers : List Answer) : Type 0 where
  pub models : AllByRecursion (IsAnswerOf program) answers
  pub apart : IsApart answers
  pub improve : program.has_objective ≡ true → Improve program answers

-- the last of them
abbrev pub last_of : List Answer → Option Answer
last_of answers = last_or None answers

-- the objective of the last of them, in a program with an objective
abbrev pub best_of : GroundProgram → List Answer → Option ℤ
best_of program answers = if program.has_objective then option_map (objective_of program) (last_of answers) else None
