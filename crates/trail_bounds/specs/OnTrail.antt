-- What a shape has, and the bounds on a trail.
use Rattle.std.specs.Prelude.{Bool}
use Rattle.literals.specs.declared.lit.Lit.{Lit}
use Rattle.literals.specs.declared.lit.Lit.TheVariants as l
use Rattle.linear_normal.specs.declared.constraint.Item.{Item}
use Rattle.linear_normal.specs.Bounds.{Bounds, bounds_named}
use Rattle.linear_normal.specs.Steps.{is_one_of}
use Rattle.numbering_laws.specs.Items.{is_item_within}
use Rattle.trail.specs.declared.shape.Shape.{Shape}
use Rattle.trail.specs.Assignment.{Assignment, lits_of}

-- the literal names an atom, a body, a constraint or a variable of the shape
abbrev pub is_of : Shape → Lit → Bool
is_of s (l.Atom n sign) = is_one_of s.atoms n
is_of s (l.Body n sign) = is_one_of s.bodies n
is_of s (l.Constraint n sign) = is_one_of s.constraints n
is_of s (l.AtMost x k) = is_one_of s.variables x
is_of s (l.AtLeast x k) = is_one_of s.variables x

-- the item counts a variable or a constraint of the shape
abbrev pub is_item_of : Shape → Item → Bool
is_item_of s item = is_item_within s.variables s.constraints item

-- the bounds on the trail
abbrev pub bounds_on : Assignment → Bounds
bounds_on t = bounds_named t.shape.ends (lits_of t.entries)
