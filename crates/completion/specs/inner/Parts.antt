-- What the code of this crate passes on: bodies, duties and constraints with numbers from 1 on.
use Rattle.std.specs.Prelude.{ℕ, ◌≤◌, true, List, ◌∷◌, Option, None, Some, length}
use Rattle.std.specs.List.{All}
use Rattle.literals.specs.declared.lit.Lit.{Lit}
use Rattle.literals.specs.declared.lit.Lit.TheVariants as l
use Rattle.literals.specs.Lits.{IsLit}
use Rattle.ground_model.specs.Answers.{IsNumbered}
use Rattle.ground_model.specs.declared.rule.GroundHead.{GroundHead}
use Rattle.ground_model.specs.declared.rule.GroundHead.TheVariants as h
use Rattle.linear_normal.specs.declared.constraint.Constraint.{Constraint}
use Rattle.linear_normal.specs.declared.constraint.Constraint.TheVariants as c
use Rattle.linear_normal.specs.declared.numbered.Conjunction.{Conjunction}
use Rattle.linear_normal.specs.declared.numbered.Duty.{Duty}
use Rattle.linear_normal.specs.declared.numbered.Support.{Support}
use Rattle.linear_normal.specs.Demands.{bounds_of}
use Rattle.completion.specs.Inputs.{all_false, supporting}

-- the literals of a body are well formed
abbrev pub IsConjunction : Conjunction → Type 0
IsConjunction conjunction = All IsLit conjunction.lits

-- so is the head of a duty
abbrev pub IsHead : Option Lit → Type 0
IsHead None = Unit {0}
IsHead (Some lit) = IsLit lit

abbrev pub IsDuty : Duty → Type 0
IsDuty duty = (1 ≤ duty.body) × IsHead duty.head

-- parts and bodies are numbered from 1 on
abbrev pub IsParted : Constraint → Type 0
IsParted (c.Both i j) = (1 ≤ i) × (1 ≤ j)
IsParted (c.Either i j) = (1 ≤ i) × (1 ≤ j)
IsParted (c.Tally bodies) = All (λ b. 1 ≤ b) bodies
IsParted constraint = Unit {0}

-- how many duties a rule with this head has
abbrev pub duty_count_of : GroundHead → ℕ
duty_count_of (h.Choice choice) = length (bounds_of choice)
duty_count_of head = 1

-- the support names one of so many atoms, and a body from 1 on
abbrev pub IsSupport : ℕ → Support → Type 0
IsSupport atoms support = IsNumbered atoms support.atom × (1 ≤ support.body)

-- that an atom is true, and that the bodies which support it are false
abbrev pub atom_lits : List Support → ℕ → List Lit
atom_lits supports a = l.Atom a true ∷ all_false (supporting supports a)
