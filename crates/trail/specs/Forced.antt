-- Lists of literals on a trail: all true, all but one true, and the literal that such a list forces.
use Rattle.std.specs.Prelude.{◌≡◌, true, List, Contains, None, ◌⊎◌}
use Rattle.literals.specs.declared.lit.Lit.{Lit}
use Rattle.literals.specs.Lits.{complement_of}
use Rattle.trail.specs.Assignment.{Assignment, is_true_on, truth_on}

-- each literal of the list is true on the trail
abbrev pub AllTrueOn : Assignment → List Lit → Type 0
AllTrueOn t lits = (l : Lit) → Contains lits l → is_true_on t l ≡ true

-- each literal of the list but this one is true on the trail
abbrev pub OthersTrueOn : Assignment → List Lit → Lit → Type 0
OthersTrueOn t lits but = (l : Lit) → Contains lits l → (l ≡ but) ⊎ (is_true_on t l ≡ true)

-- each literal of the list but this one is true on the trail, and this one is open
pub record AllButOpen (t : Assignment) (lits : List Lit) (l : Lit) : Type 0 where
  pub among : Contains lits l
  pub is_open : truth_on t l ≡ None
  pub others : OthersTrueOn t lits l

-- the list, read as a nogood, forces the literal: it has the opposite, and its other literals are true on the trail
pub record Forces (t : Assignment) (lits : List Lit) (l : Lit) : Type 0 where
  pub opposite : Contains lits (complement_of l)
  pub others : OthersTrueOn t lits (complement_of l)
