-- The objective by number.
use Rattle.std.specs.Prelude.{◌≡◌}
use Rattle.ground_model.specs.declared.program.GroundProgram.{GroundProgram}
use Rattle.ground_model.specs.Truth.{value_of}
use Rattle.ground_model.specs.View.{linear_of}
use Rattle.ground_model.specs.World.{World}
use Rattle.linear_normal.specs.Laws.{cost_in}
use Rattle.linear_normal.specs.Numbering.{numbering}

-- it has the value of the program's objective in every world
abbrev pub ObjectiveLaw : Type 0
ObjectiveLaw = (program : GroundProgram) (world : World) → value_of world.values (linear_of (numbering program).objective) ≡ cost_in program world
