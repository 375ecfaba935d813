-- Trails of a program, and those on which all is decided.
use Rattle.std.specs.Prelude.{◌≡◌, ℕ, ◌≤◌, true, length, is_some, IsTrue}
use Rattle.literals.specs.declared.lit.Lit.TheVariants.{Atom, Body, Constraint}
use Rattle.ground_model.specs.declared.program.GroundProgram.{GroundProgram}
use Rattle.linear_normal.specs.Numbering.{numbering}
use Rattle.trail.specs.declared.shape.Shape.{Shape}
use Rattle.trail.specs.Assignment.{Assignment, truth_on, lower_on, upper_on}

-- a trail of the program is over its atoms, bodies, constraints and variables, and its ends
abbrev pub shape_of : GroundProgram → Shape
shape_of program = record {
  atoms = length program.atoms;
  bodies = length (numbering program).bodies;
  constraints = length (numbering program).constraints;
  variables = length program.variables;
  ends = program.ends;
}

-- every atom, body and constraint is decided, and every variable has one value
pub record IsTotal (t : Assignment) : Type 0 where
  pub atoms : (a : ℕ) → 1 ≤ a → a ≤ t.shape.atoms → IsTrue (is_some (truth_on t (Atom a true)))
  pub bodies : (b : ℕ) → 1 ≤ b → b ≤ t.shape.bodies → IsTrue (is_some (truth_on t (Body b true)))
  pub constraints : (n : ℕ) → 1 ≤ n → n ≤ t.shape.constraints → IsTrue (is_some (truth_on t (Constraint n true)))
  pub values : (x : ℕ) → 1 ≤ x → x ≤ t.shape.variables → lower_on t x ≡ upper_on t x
