-- What the literals of input nogoods name.
use Rattle.std.specs.Prelude.{◌≡◌, Bool, true, false, Option, Some}
use Rattle.std.specs.List.{AllByRecursion}
use Rattle.literals.specs.declared.lit.Lit.{Lit}
use Rattle.literals.specs.declared.lit.Lit.TheVariants as l
use Rattle.literals.specs.Lits.{IsLit}
use Rattle.ground_model.specs.declared.program.GroundProgram.{GroundProgram}
use Rattle.linear_normal.specs.declared.constraint.Constraint.{Constraint}
use Rattle.linear_normal.specs.declared.constraint.Constraint.TheVariants as c
use Rattle.linear_normal.specs.declared.numbered.Numbered.{Numbered}
use Rattle.linear_normal.specs.Numbering.{numbering}
use Rattle.linear_normal.specs.Steps.{is_named}
use Rattle.linear_normal.specs.Truth.{numbered_in}
use Rattle.completion.specs.Inputs.{input_nogoods}

-- a domain, a distinct or a disjoint constraint: rules demand it, and none asks whether it holds
abbrev pub is_demanded : Option Constraint → Bool
is_demanded (Some (c.Domain x set)) = true
is_demanded (Some (c.Distinct places)) = true
is_demanded (Some (c.Disjoint places)) = true
is_demanded constraint = false

-- the literal is about an atom, a body or a constraint, and says of no domain, distinct or disjoint constraint that it is true
abbrev pub IsInput : Numbered → Lit → Type 0
IsInput numbered (l.Atom n sign) = Unit {0}
IsInput numbered (l.Body n sign) = Unit {0}
IsInput numbered (l.Constraint n true) = is_demanded (numbered_in numbered.constraints n) ≡ false
IsInput numbered (l.Constraint n false) = Unit {0}
IsInput numbered lit = ⊥

-- a well formed literal of the program and its numbering, as input nogoods have them
pub record IsInputLit (program : GroundProgram) (numbered : Numbered) (lit : Lit) : Type 0 where
  pub literal : IsLit lit
  pub named : is_named program numbered lit ≡ true
  pub input : IsInput numbered lit

-- so is each literal of an input nogood
abbrev pub InputsLaw : Type 0
InputsLaw =
    (program : GroundProgram) → AllByRecursion (AllByRecursion (IsInputLit program (numbering program))) (input_nogoods program)
