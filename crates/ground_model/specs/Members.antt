-- Members of lists, and how many things have a property.
use Rattle.std.specs.Prelude.{◌≡◌, ◌⊎◌, ◌↔◌, ℕ, List, [], ◌∷◌, length}

-- the list has it at some place
abbrev pub IsMember : {X : Type 0} → List X → X → Type 0
IsMember [] x = ⊥
IsMember (y ∷ ys) x = (x ≡ y) ⊎ IsMember ys x

-- nothing stands twice
abbrev pub IsApart : {X : Type 0} → List X → Type 0
IsApart [] = Unit {0}
IsApart (x ∷ xs) = (IsMember xs x → ⊥) × IsApart xs

-- the members are exactly those that have the property
abbrev pub IsListOf : {X : Type 0} → (X → Type 0) → List X → Type 0
IsListOf {X} P xs = (x : X) → IsMember xs x ↔ P x

-- exactly so many different ones have the property
abbrev pub Counts : {X : Type 0} → (X → Type 0) → ℕ → Type 0
Counts {X} P n = (xs : List X) × (length xs ≡ n) × IsApart xs × IsListOf P xs
