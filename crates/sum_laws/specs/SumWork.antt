-- The propagator of a sum of a program.
use Rattle.std.specs.Prelude.{◌≡◌, ℕ, true, ℤ, List, None, Some, IsTrue}
use Rattle.literals.specs.declared.reason.Step.TheVariants.{Sum}
use Rattle.literals.specs.declared.reason.Reason.{Reason}
use Rattle.ground_model.specs.declared.program.GroundProgram.{GroundProgram}
use Rattle.linear_normal.specs.declared.constraint.Item.{Item}
use Rattle.linear_normal.specs.declared.constraint.Constraint.TheVariants as c
use Rattle.linear_normal.specs.Numbering.{numbering}
use Rattle.linear_normal.specs.Steps.{is_valid}
use Rattle.linear_normal.specs.Truth.{numbered_in}
use Rattle.sum_propagator.specs.Sums.{sum_meaning}
use Rattle.trail_worlds.specs.Total.{shape_of}
use Rattle.trail_worlds.specs.Calm.{Settles}

-- it fits the program's shape, it calls valid exactly the reasons that a step of the sum shows, and it settles the sum
pub record DoesWork (program : GroundProgram) (n : ℕ) (items : List Item) (most : ℤ) : Type 0 where
  pub fits : IsTrue ((sum_meaning n items most).fits (shape_of program))
  pub sound : (reason : Reason) → IsTrue ((sum_meaning n items most).valid (shape_of program) reason)
      → (reason.step ≡ Sum n) × (is_valid program (numbering program) None reason.nogood reason.step ≡ true)
  pub complete : (reason : Reason) → reason.step ≡ Sum n → is_valid program (numbering program) None reason.nogood reason.step ≡ true
      → IsTrue ((sum_meaning n items most).valid (shape_of program) reason)
  pub settles : Settles program n (c.AtMost items most) (sum_meaning n items most)

-- so does that of each sum in the numbering of a program
abbrev pub SumWorkLaw : Type 0
SumWorkLaw =
    (program : GroundProgram) (n : ℕ) (items : List Item) (most : ℤ) → numbered_in (numbering program).constraints n ≡ Some (c.AtMost items most)
    → DoesWork program n items most
