-- What supports what in a ground program, as far as loops go: which positive atoms each body has.
use Rattle.std.specs.Prelude.{◌≡◌, ℕ, zero, suc, Bool, true, not, ◌&&◌, List, [], ◌∷◌, map, length, slice_index_or}
use Rattle.std.specs.List.{list_any}
use Rattle.literals.specs.declared.lit.Lit.{Lit}
use Rattle.literals.specs.declared.lit.Lit.TheVariants as l
use Rattle.ground_model.specs.declared.program.GroundProgram.{GroundProgram}
use Rattle.linear_normal.specs.declared.numbered.Support.{Support}
use Rattle.linear_normal.specs.Numbering.{numbering}
use Rattle.trail.specs.declared.shape.Shape.{Shape}

-- how many atoms there are, the positive atoms of each body, and which body supports which atom
pub record Dependence : Type 0 where
  pub atoms : ℕ
  pub bodies : List (List ℕ)
  pub supports : List Support

-- the atoms that are listed true
abbrev pub positive_atoms : List Lit → List ℕ
positive_atoms [] = []
positive_atoms (l.Atom a true ∷ lits) = a ∷ positive_atoms lits
positive_atoms (lit ∷ lits) = positive_atoms lits

-- the dependence of a program, by number
abbrev pub dependence_of : GroundProgram → Dependence
dependence_of program = record {
  atoms = length program.atoms;
  bodies = map (λ body. positive_atoms body.lits) (numbering program).bodies;
  supports = (numbering program).supports;
}

-- the shape has its atoms and bodies
pub record Fits (d : Dependence) (shape : Shape) : Type 0 where
  pub atoms : shape.atoms ≡ d.atoms
  pub bodies : shape.bodies ≡ length d.bodies

-- the row of that number, counted from 1
abbrev pub row_of : List (List ℕ) → ℕ → List ℕ
row_of rows zero = []
row_of rows (suc n) = slice_index_or rows n []

-- the support gives an atom of the set by a body that has no positive atom of it
abbrev pub is_outer : List (List ℕ) → (ℕ → Bool) → Support → Bool
is_outer bodies set support = set support.atom && not (list_any set (row_of bodies support.body))
