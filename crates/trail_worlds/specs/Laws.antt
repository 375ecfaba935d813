-- What holds of a trail at rest.
use Rattle.std.specs.Prelude.{◌≡◌, ◌⊎◌, ℕ, true, length, Some}
use Rattle.std.specs.List.{AllByRecursion}
use Rattle.literals.specs.declared.lit.Lit.TheVariants.{Atom, AtMost, AtLeast}
use Rattle.ground_model.specs.declared.program.GroundProgram.{GroundProgram}
use Rattle.ground_model.specs.Answers.{IsNumbered, value_at, has_atom, IsAnswerOf}
use Rattle.linear_normal.specs.declared.constraint.Constraint.{Constraint}
use Rattle.linear_normal.specs.Numbering.{numbering}
use Rattle.linear_normal.specs.Truth.{numbered_in}
use Rattle.completion.specs.Inputs.{input_nogoods}
use Rattle.completion.specs.Tight.{IsTight}
use Rattle.trail.specs.Assignment.{Assignment, IsAssignment, Names, is_true_on}
use Rattle.trail.specs.Forced.{AllTrueOn}
use Rattle.trail_worlds.specs.Total.{shape_of, IsTotal}
use Rattle.trail_worlds.specs.Worlds.{answer_on, has_work, IsSettledOn}
use Rattle.trail_worlds.specs.Founded.{IsFounded}

-- a trail of the program on which all is decided, no input nogood is all true, what needs work is settled, and nothing is unfounded
pub record IsModelOn (program : GroundProgram) (t : Assignment) : Type 0 where
  pub assignment : IsAssignment t
  pub shape : t.shape ≡ shape_of program
  pub total : IsTotal t
  pub met : AllByRecursion (λ nogood. AllTrueOn t nogood → ⊥) (input_nogoods program)
  pub settled : (n : ℕ) (constraint : Constraint) → numbered_in (numbering program).constraints n ≡ Some constraint → has_work constraint ≡ true → IsSettledOn t n constraint
  pub founded : IsTight (numbering program) ⊎ IsFounded (numbering program) t

-- such a trail's answer is a constraint stable model of the program
abbrev pub AnswerLaw : Type 0
AnswerLaw = (program : GroundProgram) (t : Assignment) → IsModelOn program t → IsAnswerOf program (answer_on t)

-- the trail says of each atom and each variable of the program what its answer says
pub record SaysAnswer (program : GroundProgram) (t : Assignment) : Type 0 where
  pub atoms : (a : ℕ) → IsNumbered (length program.atoms) a → is_true_on t (Atom a (has_atom (answer_on t).atoms a)) ≡ true
  pub most : (x : ℕ) → IsNumbered (length program.variables) x → is_true_on t (AtMost x (value_at (answer_on t).values x)) ≡ true
  pub least : (x : ℕ) → IsNumbered (length program.variables) x → is_true_on t (AtLeast x (value_at (answer_on t).values x)) ≡ true

-- so it does where all is decided
abbrev pub SayLaw : Type 0
SayLaw = (program : GroundProgram) (t : Assignment) → t.shape ≡ shape_of program → IsTotal t → SaysAnswer program t

-- every literal of an input nogood is well formed and of the shape of the program's trails
abbrev pub NamesLaw : Type 0
NamesLaw = (program : GroundProgram) → AllByRecursion (AllByRecursion (Names (shape_of program))) (input_nogoods program)
