-- What may be decided.
use Rattle.std.specs.Prelude.{◌≡◌, None}
use Rattle.literals.specs.declared.lit.Lit.{Lit}
use Rattle.trail.specs.Assignment.{Assignment, Names, truth_on}

-- a literal of the shape that is open on the trail
pub record IsOpen (t : Assignment) (lit : Lit) : Type 0 where
  pub named : Names t.shape lit
  pub undecided : truth_on t lit ≡ None
