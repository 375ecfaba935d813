-- Constraints about tuples.
use Rattle.std.specs.Prelude.{Bool, true, false}
use Rattle.linear_normal.specs.declared.constraint.Constraint.{Constraint}
use Rattle.linear_normal.specs.declared.constraint.Constraint.TheVariants.{Distinct, Disjoint}

-- the constraint is that tuples differ, or that they do not overlap
abbrev pub is_about_tuples : Constraint → Bool
is_about_tuples (Distinct places) = true
is_about_tuples (Disjoint places) = true
is_about_tuples constraint = false
