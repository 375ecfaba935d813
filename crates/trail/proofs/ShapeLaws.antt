-- Literals of a shape.
use Rattle.literals.specs.declared.lit.Lit.{Lit}
use Rattle.literals.specs.declared.lit.Lit.TheVariants.{Atom, Body, Constraint, AtMost, AtLeast}
use Rattle.literals.specs.Places.{IsCounted}
use Rattle.trail.specs.declared.shape.Shape.{Shape}
use Rattle.trail.specs.Assignment.{IsOf, counts_of}

-- a literal of the shape is one of those that are counted
pub of_counted : (s : Shape) (l : Lit) → IsOf s l → IsCounted (counts_of s) l
of_counted s (Atom n sign) h = h
of_counted s (Body n sign) h = h
of_counted s (Constraint n sign) h = h
of_counted s (AtMost x k) h = h
of_counted s (AtLeast x k) h = h
