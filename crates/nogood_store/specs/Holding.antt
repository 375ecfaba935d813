-- What callers see of a store: nogoods under ids, and the literals of the trail at which it has looked.
use Rattle.std.specs.Prelude.{◌≡◌, ℕ, suc, ◌<◌, ◌==◌, ◌++◌, cond, List, [], ◌∷◌, map, Option, None, Some}
use Rattle.std.specs.List.{AllByRecursion, Contains}
use Rattle.literals.specs.declared.lit.Lit.{Lit}
use Rattle.trail.specs.declared.entry.Entry.{Entry}

-- a nogood that is held, under its id
pub record Held : Type 0 where
  pub id : ℕ
  pub nogood : List Lit

-- a literal at which the store has looked, and its level
pub record Seen : Type 0 where
  pub lit : Lit
  pub level : ℕ

-- the held nogoods in the order of their ids, and the literals at which the store has looked
pub record Holding : Type 0 where
  pub held : List Held
  pub looked : List Seen

-- the nogood that is held under the id
abbrev pub nogood_under : List Held → ℕ → Option (List Lit)
nogood_under [] id = None
nogood_under (h ∷ hs) id = cond (h.id == id) (Some h.nogood) (nogood_under hs id)

-- each id is below those that follow it
abbrev pub Ascends : List Held → Type 0
Ascends [] = Unit {0}
Ascends (h ∷ hs) = AllByRecursion (λ g. h.id < g.id) hs × Ascends hs

-- every held id is below this one
abbrev pub AreBelow : ℕ → List Held → Type 0
AreBelow id held = AllByRecursion (λ h. h.id < id) held

-- these nogoods under the ids from this one on
abbrev pub numbered_from : ℕ → List (List Lit) → List Held
numbered_from id [] = []
numbered_from id (n ∷ ns) = record { id = id; nogood = n } ∷ numbered_from (suc id) ns

-- the nogood is held under some id: a sorted list is the one for its literals, so this says the same set of literals
abbrev pub IsHeld : List Held → List Lit → Type 0
IsHeld held n = (h : Held) × Contains held h × (h.nogood ≡ n)

-- the literals of these entries, with their levels
abbrev pub seen_of : List Entry → List Seen
seen_of entries = map (λ e. record { lit = e.lit; level = e.level }) entries

-- the first of the second list are the first list
abbrev pub IsFront : List Seen → List Seen → Type 0
IsFront first seen = (more : List Seen) × (seen ≡ first ++ more)
