-- Lists in order, and more things than a limit.
use Rattle.std.specs.Prelude.{◌≡◌, ◌<◌, ℕ, List, [], ◌∷◌, length}
use Rattle.std.specs.List.{AllByRecursion}
use Rattle.std.specs.declared.cmp.Ordering.{Ordering}
use Rattle.std.specs.declared.cmp.Ordering.TheVariants.{Less}
use Rattle.ground_model.specs.Members.{IsApart, IsListOf}

-- each one is less than all behind it
abbrev pub Ascends : {X : Type 0} → (X → X → Ordering) → List X → Type 0
Ascends order [] = Unit {0}
Ascends order (x ∷ rest) = AllByRecursion (λ y. order x y ≡ Less) rest × Ascends order rest

-- the list of all that have a property, in order
pub record IsOrderedListOf {X : Type 0} (order : X → X → Ordering) (P : X → Type 0) (xs : List X) : Type 0 where
  pub ascend : Ascends order xs
  pub all : IsListOf P xs

-- more different ones than the limit have the property
pub record Exceeds {X : Type 0} (P : X → Type 0) (limit : ℕ) : Type 0 where
  pub shown : List X
  pub apart : IsApart shown
  pub each : AllByRecursion P shown
  pub more : limit < length shown
