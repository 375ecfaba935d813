-- What an answer costs.
use Rattle.std.specs.Prelude.{ℤ, ◌-ℤ◌, List, map}
use Rattle.ground_model.specs.declared.answer.Answer.{Answer}
use Rattle.ground_model.specs.declared.program.GroundProgram.{GroundProgram}
use Rattle.ground_model.specs.Rule.{PlaceOf}
use Rattle.ground_model.specs.Truth.{sum_of}
use Rattle.ground_model.specs.View.{place_of}
use Rattle.ground_model.specs.Answers.{value_at}

-- the sum of the tuples to minimise minus that of the tuples to maximise
abbrev pub cost : {V : Type 0} → (V → ℤ) → List (PlaceOf V) → List (PlaceOf V) → ℤ
cost values smaller larger = sum_of values smaller -ℤ sum_of values larger

-- the objective of an answer
abbrev pub objective_of : GroundProgram → Answer → ℤ
objective_of program answer =
    cost (value_at answer.values) (map (place_of program.symbols) program.smaller) (map (place_of program.symbols) program.larger)
