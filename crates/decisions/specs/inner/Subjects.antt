-- What stands at a place of the order. Only the code of this crate reads this file.
use Rattle.std.specs.Prelude.{◌≤◌}
use Rattle.trail.specs.declared.shape.Shape.{Shape}
use Rattle.trail.specs.Assignment.{Names}
use Rattle.decisions.specs.declared.subjects.Subject.{Subject}
use Rattle.decisions.specs.declared.subjects.Subject.TheVariants.{Truth, Variable}

-- the number is of the shape
abbrev pub IsSubject : Shape → Subject → Type 0
IsSubject s (Truth lit) = Names s lit
IsSubject s (Variable x) = (1 ≤ x) × (x ≤ s.variables)
