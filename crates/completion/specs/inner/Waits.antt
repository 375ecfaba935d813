-- What each atom waits for, as the test of tightness passes it on: one definite rule for each atom.
use Rattle.std.specs.Prelude.{ℕ, ◌+◌, ◌<◌, ◌==◌, true, cond, List, [], ◌∷◌, Option, None, Some, map}
use Rattle.std.specs.List.{flat_map, range_with_len}
use Rattle.literals.specs.declared.lit.Lit.{Lit}
use Rattle.literals.specs.declared.lit.Lit.TheVariants as l
use Rattle.definite_rules.specs.Rule.{DefiniteRule}
use Rattle.ground_model.specs.Answers.{IsNumbered}
use Rattle.linear_normal.specs.declared.numbered.Conjunction.{Conjunction}
use Rattle.linear_normal.specs.declared.numbered.Support.{Support}
use Rattle.linear_normal.specs.Truth.{numbered_in}

-- the atom of a positive literal
abbrev pub positive_atom : Lit → List ℕ
positive_atom (l.Atom a true) = a ∷ []
positive_atom lit = []

-- the positive atoms of a body
abbrev pub positive_atoms : Option Conjunction → List ℕ
positive_atoms None = []
positive_atoms (Some conjunction) = flat_map positive_atom conjunction.lits

-- what an atom waits for by one support
abbrev pub waits_by : List Conjunction → ℕ → Support → List ℕ
waits_by bodies a support = cond (support.atom == a) (positive_atoms (numbered_in bodies support.body)) []

-- what an atom waits for: the positive atoms of all bodies that support it
abbrev pub waits_of : List Conjunction → List Support → ℕ → List ℕ
waits_of bodies supports a = flat_map (waits_by bodies a) supports

-- an atom is done once all that it waits for is done
abbrev pub waiting_rule : List Conjunction → List Support → ℕ → DefiniteRule
waiting_rule bodies supports a = record { head = a; body = waits_of bodies supports a }

-- the rules of the atoms below a number
abbrev pub waiting_rules : List Conjunction → List Support → ℕ → List DefiniteRule
waiting_rules bodies supports count = map (waiting_rule bodies supports) (range_with_len 0 count)

-- rules with these bodies, whose heads are numbered from this number on
abbrev pub rules_with : ℕ → List (List ℕ) → List DefiniteRule
rules_with n [] = []
rules_with n (row ∷ rows) = record { head = n; body = row } ∷ rules_with (n + 1) rows

-- the support names an atom below a number, and one of so many bodies
abbrev pub IsSupportBelow : ℕ → ℕ → Support → Type 0
IsSupportBelow count bodies support = (support.atom < count) × IsNumbered bodies support.body
