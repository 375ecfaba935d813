-- The domain, distinct and disjoint constraints of a numbering.
use Rattle.std.specs.Prelude.{◌≡◌, true, length}
use Rattle.std.specs.List.{AllByRecursion}
use Rattle.ground_model.specs.declared.rule.TheoryHead.{TheoryHead}
use Rattle.ground_model.specs.declared.rule.TheoryHead.TheVariants as t
use Rattle.ground_model.specs.declared.program.GroundProgram.{GroundProgram}
use Rattle.ground_model.specs.Sound.{is_sound_theory}
use Rattle.linear_normal.specs.declared.constraint.Constraint.{Constraint}
use Rattle.linear_normal.specs.declared.constraint.Constraint.TheVariants as c
use Rattle.linear_normal.specs.Numbering.{numbering}

-- the theory atom is sound in the program: it is over its variables, and its sums stay small under its ends
abbrev pub IsSoundIn : GroundProgram → TheoryHead → Type 0
IsSoundIn program theory = is_sound_theory (length program.symbols) (length program.variables) program.ends theory ≡ true

-- a domain, a distinct or a disjoint constraint is such an atom
abbrev pub IsSoundConstraint : GroundProgram → Constraint → Type 0
IsSoundConstraint program (c.Domain x set) = IsSoundIn program (t.Domain set x)
IsSoundConstraint program (c.Distinct places) = IsSoundIn program (t.Distinct places)
IsSoundConstraint program (c.Disjoint places) = IsSoundIn program (t.Disjoint places)
IsSoundConstraint program constraint = Unit {0}

-- so it is in the numbering of every program
abbrev pub TheoryLaw : Type 0
TheoryLaw = (program : GroundProgram) → AllByRecursion (IsSoundConstraint program) (numbering program).constraints
