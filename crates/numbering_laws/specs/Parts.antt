-- What the numbers in a numbering name.
use Rattle.std.specs.Prelude.{◌≡◌, Bool, true, false, length, Option, None, Some}
use Rattle.std.specs.List.{AllByRecursion}
use Rattle.literals.specs.declared.lit.Lit.{Lit}
use Rattle.literals.specs.declared.lit.Lit.TheVariants as l
use Rattle.ground_model.specs.declared.linear.Place.{Place}
use Rattle.ground_model.specs.declared.program.GroundProgram.{GroundProgram}
use Rattle.ground_model.specs.Answers.{IsNumbered}
use Rattle.linear_normal.specs.declared.constraint.Item.{Item}
use Rattle.linear_normal.specs.declared.constraint.Item.TheVariants.{Value, Truth}
use Rattle.linear_normal.specs.declared.constraint.Constraint.{Constraint}
use Rattle.linear_normal.specs.declared.constraint.Constraint.TheVariants as c
use Rattle.linear_normal.specs.declared.numbered.Support.{Support}
use Rattle.linear_normal.specs.declared.numbered.Duty.{Duty}
use Rattle.linear_normal.specs.declared.numbered.Numbered.{Numbered}
use Rattle.linear_normal.specs.Numbering.{numbering}
use Rattle.linear_normal.specs.Truth.{numbered_in}

-- KINDS

-- the constraint is a sum that is at most a number
abbrev pub is_at_most : Option Constraint → Bool
is_at_most (Some (c.AtMost items k)) = true
is_at_most constraint = false

-- it is such a sum, or two constraints joined by "and" or by "or"
abbrev pub is_relation : Option Constraint → Bool
is_relation (Some (c.AtMost items k)) = true
is_relation (Some (c.Both i j)) = true
is_relation (Some (c.Either i j)) = true
is_relation constraint = false

-- it says that some of its bodies is true
abbrev pub is_tally : Option Constraint → Bool
is_tally (Some (c.Tally bodies)) = true
is_tally constraint = false

-- PARTS

-- a literal of a body is about an atom of the program or about a relation
abbrev pub IsOfBody : GroundProgram → Numbered → Lit → Type 0
IsOfBody program numbered (l.Atom a sign) = IsNumbered (length program.atoms) a
IsOfBody program numbered (l.Constraint n sign) = is_relation (numbered_in numbered.constraints n) ≡ true
IsOfBody program numbered lit = ⊥

-- an item counts a variable of the program or a tally
abbrev pub IsOfSum : GroundProgram → Numbered → Item → Type 0
IsOfSum program numbered (Value x c) = IsNumbered (length program.variables) x
IsOfSum program numbered (Truth n c) = is_tally (numbered_in numbered.constraints n) ≡ true

-- the first place of a tuple is over variables of the program
abbrev pub IsPlaceOf : GroundProgram → Place → Type 0
IsPlaceOf program place = AllByRecursion (λ pair. IsNumbered (length program.variables) pair.0) place.linear.pairs

-- "and" and "or" join sums, a sum is of variables and tallies, a tally of bodies, and the others of variables
abbrev pub HasParts : GroundProgram → Numbered → Constraint → Type 0
HasParts program numbered (c.AtMost items k) = AllByRecursion (IsOfSum program numbered) items
HasParts program numbered (c.Both i j) =
    (is_at_most (numbered_in numbered.constraints i) ≡ true) × (is_at_most (numbered_in numbered.constraints j) ≡ true)
HasParts program numbered (c.Either i j) =
    (is_at_most (numbered_in numbered.constraints i) ≡ true) × (is_at_most (numbered_in numbered.constraints j) ≡ true)
HasParts program numbered (c.Domain x set) = IsNumbered (length program.variables) x
HasParts program numbered (c.Distinct places) = AllByRecursion (IsPlaceOf program) places
HasParts program numbered (c.Disjoint places) = AllByRecursion (IsPlaceOf program) places
HasParts program numbered (c.Tally bodies) = AllByRecursion (IsNumbered (length numbered.bodies)) bodies

-- an atom of the program by one of the bodies
pub record IsSupportOf (program : GroundProgram) (numbered : Numbered) (support : Support) : Type 0 where
  pub atom : IsNumbered (length program.atoms) support.atom
  pub body : IsNumbered (length numbered.bodies) support.body

-- a duty is of an atom of the program or of one of the constraints
abbrev pub IsOwed : GroundProgram → Numbered → Option Lit → Type 0
IsOwed program numbered None = Unit {0}
IsOwed program numbered (Some (l.Atom a true)) = IsNumbered (length program.atoms) a
IsOwed program numbered (Some (l.Constraint n true)) = IsNumbered (length numbered.constraints) n
IsOwed program numbered head = ⊥

-- it is owed where one of the bodies is true
pub record IsDutyOf (program : GroundProgram) (numbered : Numbered) (duty : Duty) : Type 0 where
  pub body : IsNumbered (length numbered.bodies) duty.body
  pub head : IsOwed program numbered duty.head

-- each number names something of its kind, and no domain, distinct or disjoint constraint is a part of another or of a body
pub record ArePartsSums (program : GroundProgram) (numbered : Numbered) : Type 0 where
  pub bodies : AllByRecursion (λ body. AllByRecursion (IsOfBody program numbered) body.lits) numbered.bodies
  pub constraints : AllByRecursion (HasParts program numbered) numbered.constraints
  pub supports : AllByRecursion (IsSupportOf program numbered) numbered.supports
  pub duties : AllByRecursion (IsDutyOf program numbered) numbered.duties

-- so it is in the numbering of every program
abbrev pub PartsLaw : Type 0
PartsLaw = (program : GroundProgram) → ArePartsSums program (numbering program)
