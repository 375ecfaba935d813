-- The constraint stable models of a program, and those of its ground program.
use Rattle.std.specs.Prelude.{◌≡◌, ℕ, Bool, true, false, ℤ, List, length, Option, None, Some}
use Rattle.symbols.specs.declared.ends.Ends.{Ends}
use Rattle.symbols.specs.Symbol.{Symbol}
use Rattle.syntax_tree.specs.declared.literal.TheoryName.TheVariants as name
use Rattle.ground_model.specs.declared.answer.Answer.{Answer}
use Rattle.ground_model.specs.declared.program.GroundProgram.{GroundProgram}
use Rattle.ground_model.specs.Answers.{ascend_from, value_at, has_atom, AreAtomsOf, IsWithin}
use Rattle.ground_model.specs.Members.{IsMember}
use Rattle.ground_model.specs.Model.{IsModel}
use Rattle.ground_model.specs.Objective.{cost}
use Rattle.ground_model.specs.Rule.{PlaceOf}
use Rattle.program_meaning.specs.Read.{ReadRule}
use Rattle.program_meaning.specs.Ascending.{IsOrderedListOf}
use Rattle.program_meaning.specs.Theory.{place_cmp}
use Rattle.program_meaning.specs.Ground.{IsRuleOfProgram}
use Rattle.program_meaning.specs.Canonical.{number_of, variable_number, IsVariable, IsDirected, GroundView}

-- a set of atoms with values is a constraint stable model of a program: the set is a stable model of the relevant instances under the
-- values, and each integer variable of the program has a value within the ends
pub record IsModelOf (rules : List ReadRule) (ends : Ends) (model : Symbol → Bool) (values : Symbol → ℤ) : Type 0 where
  pub stable : IsModel (IsRuleOfProgram rules) values model
  pub within : (x : Symbol) → IsVariable rules x → IsWithin ends (values x)

-- the answer has the atom of this number
abbrev pub has_number : Answer → Option ℕ → Bool
has_number answer None = false
has_number answer (Some n) = has_atom answer.atoms n

-- a set of symbols with values says what an answer says of the numbers of a ground program
pub record IsSameWorld (view : GroundView) (model : Symbol → Bool) (values : Symbol → ℤ) (answer : Answer) : Type 0 where
  pub same_atoms : (a : Symbol) → model a ≡ has_number answer (number_of view.atoms a)
  pub same_values : (x : Symbol) → IsMember view.variables x → values x ≡ value_at answer.values (variable_number view.variables x)

-- the answer's atoms ascend and are the program's, and it has one value for each variable
pub record IsShaped (program : GroundProgram) (answer : Answer) : Type 0 where
  pub ascending : ascend_from 0 answer.atoms ≡ true
  pub atoms : AreAtomsOf program answer.atoms
  pub each : length answer.values ≡ length program.variables

-- the objective of a program under values: the sum of the set of the tuples to minimise minus that of those to maximise
pub record IsObjective (rules : List ReadRule) (values : Symbol → ℤ) (objective : ℤ) : Type 0 where
  pub smaller : List (PlaceOf Symbol)
  pub larger : List (PlaceOf Symbol)
  pub minimised : IsOrderedListOf place_cmp (IsDirected rules name.Minimize) smaller
  pub maximised : IsOrderedListOf place_cmp (IsDirected rules name.Maximize) larger
  pub difference : objective ≡ cost values smaller larger
