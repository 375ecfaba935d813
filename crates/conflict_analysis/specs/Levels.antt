-- At which level a literal became true.
use Rattle.std.specs.Prelude.{◌≡◌, ℕ, zero, suc, ◌<◌, max, true, List, [], ◌∷◌, Option, None, Some}
use Rattle.std.specs.List.{AllByRecursion}
use Rattle.literals.specs.declared.lit.Lit.{Lit}
use Rattle.literals.specs.Nogoods.{has_lit, without}
use Rattle.trail.specs.declared.entry.Entry.{Entry}
use Rattle.trail.specs.Assignment.{Assignment, since_on}

-- the level of the entry at the place
abbrev pub level_at : List Entry → ℕ → ℕ
level_at [] i = 0
level_at (e ∷ es) zero = e.level
level_at (e ∷ es) (suc i) = level_at es i

abbrev pub level_since : List Entry → Option ℕ → ℕ
level_since es None = 0
level_since es (Some i) = level_at es i

-- the level of the entry by which the literal became true, 0 where the ends imply it
abbrev pub level_on : Assignment → Lit → ℕ
level_on t l = level_since t.entries (since_on t l)

-- the literal became true by an entry, and not by the ends
abbrev pub IsByEntry : Assignment → Lit → Type 0
IsByEntry t l = (i : ℕ) × (since_on t l ≡ Some i)

-- the greatest level of these literals, 0 where there is none
abbrev pub highest : Assignment → List Lit → ℕ
highest t [] = 0
highest t (l ∷ ls) = max (level_on t l) (highest t ls)

-- exactly one literal has the highest level, which is above 0, and this level is the next highest
pub record IsAsserting (t : Assignment) (lits : List Lit) (level : ℕ) : Type 0 where
  pub top : Lit
  pub among : has_lit lits top ≡ true
  pub above : 0 < level_on t top
  pub others : AllByRecursion (λ m. level_on t m < level_on t top) (without lits top)
  pub next : level ≡ highest t (without lits top)
