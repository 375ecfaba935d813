-- Tight programs (Fages): no atom leans on itself.
use Rattle.std.specs.Prelude.{ℕ, ◌<◌, true, Option, None, Some}
use Rattle.std.specs.List.{AllByRecursion}
use Rattle.literals.specs.declared.lit.Lit.{Lit}
use Rattle.literals.specs.declared.lit.Lit.TheVariants as l
use Rattle.linear_normal.specs.declared.numbered.Conjunction.{Conjunction}
use Rattle.linear_normal.specs.declared.numbered.Numbered.{Numbered}
use Rattle.linear_normal.specs.Truth.{numbered_in}

-- a positive atom has a rank below this one
abbrev pub IsBelow : (ℕ → ℕ) → ℕ → Lit → Type 0
IsBelow rank above (l.Atom a true) = rank a < above
IsBelow rank above lit = Unit {0}

-- so has each positive atom of a body
abbrev pub AreBelow : (ℕ → ℕ) → ℕ → Option Conjunction → Type 0
AreBelow rank above None = Unit {0}
AreBelow rank above (Some conjunction) = AllByRecursion (IsBelow rank above) conjunction.lits

-- atoms can be ranked so that each body that supports an atom has only positive atoms of lower ranks
abbrev pub IsTight : Numbered → Type 0
IsTight numbered =
    (rank : ℕ → ℕ) × AllByRecursion (λ support. AreBelow rank (rank support.atom) (numbered_in numbered.bodies support.body)) numbered.supports
