-- Trails on which each entry is a decision or has a reason that a line can tell.
use Rattle.std.specs.Prelude.{◌≡◌, ◌⊎◌, Bool, true, IsTrue, ℤ, List, Option, None}
use Rattle.literals.specs.declared.reason.Reason.{Reason}
use Rattle.ground_model.specs.declared.program.GroundProgram.{GroundProgram}
use Rattle.linear_normal.specs.Numbering.{numbering}
use Rattle.linear_normal.specs.Steps.{is_valid}
use Rattle.trail.specs.declared.shape.Shape.{Shape}
use Rattle.trail.specs.declared.entry.Entry.{Entry}
use Rattle.trail.specs.Assignment.{Assignment}
use Rattle.nogood_store.specs.Holding.{Held}
use Rattle.nogood_store.specs.Propagation.{IsForced}
use Rattle.conflict_analysis.specs.Justified.{IsJustified}
use Rattle.propagator_core.specs.Shown.{IsShown}
use Rattle.trail_worlds.specs.Total.{shape_of}
use Rattle.learning.specs.Told.{AllTellable}

-- a trail of the program: each entry is a decision in its place or has a reason, and each reason that is shown is valid after this cost
pub record IsExplained (program : GroundProgram) (cost : Option ℤ) (held : List Held) (t : Assignment) : Type 0 where
  pub shape : t.shape ≡ shape_of program
  pub justified : IsJustified held t
  pub tellable : AllTellable program cost t.entries

-- what is called valid on trails of the program is a valid step, whatever the cost
abbrev pub IsSound : GroundProgram → (Shape → Reason → Bool) → Type 0
IsSound program valid = (r : Reason) → IsTrue (valid (shape_of program) r) → is_valid program (numbering program) None r.nogood r.step ≡ true

-- a held nogood forces the entry, or a reason that is called valid does
abbrev pub IsForcedOrShown : List Held → (Shape → Reason → Bool) → Assignment → Entry → Type 0
IsForcedOrShown held valid t e = IsForced held t e ⊎ IsShown valid t e
