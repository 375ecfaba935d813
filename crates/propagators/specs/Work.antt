-- What the propagators of a search have to be.
use Rattle.std.specs.Prelude.{◌≡◌, zero, Bool, true, false, IsTrue, List, None}
use Rattle.literals.specs.declared.reason.Reason.{Reason}
use Rattle.literals.specs.declared.reason.Step.{Step}
use Rattle.literals.specs.declared.reason.Step.TheVariants.{Sum, Loop, Hole}
use Rattle.ground_model.specs.declared.program.GroundProgram.{GroundProgram}
use Rattle.linear_normal.specs.Numbering.{numbering}
use Rattle.linear_normal.specs.Steps.{is_valid}
use Rattle.trail_worlds.specs.Total.{shape_of}
use Rattle.trail_worlds.specs.Calm.{EachIsSettled}
use Rattle.propagator_core.specs.Meaning.{Meaning}
use Rattle.propagator_core.specs.Several.{some_valid}

-- the step is that of a constraint: not of the objective, of the ends of the variables or of a loop
abbrev pub is_of_constraint : Step → Bool
is_of_constraint (Sum zero) = false
is_of_constraint (Hole zero) = false
is_of_constraint (Loop set) = false
is_of_constraint step = true

-- what one of them calls valid is a valid step, each valid step of a constraint is called valid by one of them, and each constraint that needs work has one that settles it
pub record DoTheWork (program : GroundProgram) (ms : List Meaning) : Type 0 where
  pub sound : (r : Reason) → IsTrue (some_valid ms (shape_of program) r) → is_valid program (numbering program) None r.nogood r.step ≡ true
  pub complete : (r : Reason) → is_of_constraint r.step ≡ true → is_valid program (numbering program) None r.nogood r.step ≡ true → IsTrue (some_valid ms (shape_of program) r)
  pub settled : EachIsSettled program ms
