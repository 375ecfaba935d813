-- The place of each literal in one flat table: two places for each atom, body and constraint, and two for each variable.
use Rattle.std.specs.Prelude.{ℕ, ◌+◌, ◌*◌, ◌≤◌}
use Rattle.literals.specs.declared.lit.Lit.{Lit}
use Rattle.literals.specs.declared.lit.Lit.TheVariants.{Atom, Body, Constraint, AtMost, AtLeast}
use Rattle.literals.specs.declared.places.Counts.{Counts}
use Rattle.literals.specs.Nogoods.{index_of}

-- the number of the literal is one of those counted
abbrev pub IsCounted : Counts → Lit → Type 0
IsCounted c (Atom n sign) = n ≤ c.atoms
IsCounted c (Body n sign) = n ≤ c.bodies
IsCounted c (Constraint n sign) = n ≤ c.constraints
IsCounted c (AtMost x k) = x ≤ c.variables
IsCounted c (AtLeast x k) = x ≤ c.variables

-- the first place of the bodies, of the constraints, of the bounds, and of nothing: number 0 has its two places as the others do
abbrev pub bodies_from : Counts → ℕ
bodies_from c = 2 * (c.atoms + 1)

abbrev pub constraints_from : Counts → ℕ
constraints_from c = bodies_from c + 2 * (c.bodies + 1)

abbrev pub bounds_from : Counts → ℕ
bounds_from c = constraints_from c + 2 * (c.constraints + 1)

abbrev pub places_of : Counts → ℕ
places_of c = bounds_from c + 2 * (c.variables + 1)

-- the place of the literal: within its kind in the order of a nogood, and all bounds on one side of one variable at one place
abbrev pub place_of : Counts → Lit → ℕ
place_of c (Atom n sign) = index_of (Atom n sign)
place_of c (Body n sign) = bodies_from c + index_of (Body n sign)
place_of c (Constraint n sign) = constraints_from c + index_of (Constraint n sign)
place_of c (AtMost x k) = bounds_from c + index_of (AtMost x k)
place_of c (AtLeast x k) = bounds_from c + index_of (AtLeast x k)
