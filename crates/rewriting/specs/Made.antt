-- What rewriting makes of a piece of a rule's text, where new variables have the numbers from a given one on.
use Rattle.std.specs.Prelude.{ℕ, List, [], ◌∷◌, ◌++◌, Option, None, Some}
use Rattle.syntax_tree.specs.declared.literal.Literal.{Literal}
use Rattle.rewriting.specs.declared.sight.Sight.{Sight}

-- the piece anew, the next number, the comparisons that come with it, and what is seen in it, in the order of the text
pub record Made (X : Type 0) : Type 0 where
  pub made : X
  pub next : ℕ
  pub added : List Literal
  pub sights : List Sight

-- a piece that stays, in which nothing is seen
abbrev pub same : {X : Type 0} → X → ℕ → Made X
same x next = record { made = x; next = next; added = []; sights = [] }

-- something is seen before the piece
abbrev pub seeing : {X : Type 0} → Sight → Made X → Made X
seeing sight a = record { made = a.made; next = a.next; added = a.added; sights = sight ∷ a.sights }

-- the piece as a part of another
abbrev pub mapped : {X Y : Type 0} → (X → Y) → Made X → Made Y
mapped f a = record { made = f a.made; next = a.next; added = a.added; sights = a.sights }

-- a piece and the one behind it, joined
abbrev pub joined : {X Y Z : Type 0} → (X → Y → Z) → Made X → Made Y → Made Z
joined f a b = record { made = f a.made b.made; next = b.next; added = a.added ++ b.added; sights = a.sights ++ b.sights }

abbrev pub both : {X Y Z : Type 0} → (X → Y → Z) → (ℕ → Made X) → (ℕ → Made Y) → ℕ → Made Z
both f first second next = joined f (first next) (second (first next).next)

-- pieces one behind the other
abbrev pub each : {X : Type 0} → List (ℕ → Made X) → ℕ → Made (List X)
each [] next = same [] next
each (first ∷ rest) next = both (λ x xs. x ∷ xs) first (each rest) next

-- a piece that may be missing
abbrev pub maybe : {X Y : Type 0} → (X → ℕ → Made Y) → Option X → ℕ → Made (Option Y)
maybe way None next = same None next
maybe way (Some x) next = mapped (λ y. Some y) (way x next)
