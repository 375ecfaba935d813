-- The literals on which the least value of an item stands.
use Rattle.std.specs.Prelude.{◌≡◌, ℕ, Bool, true, pos, ◌+ℤ◌, ◌≤ℤ◌, List, ◌++◌}
use Rattle.std.specs.List.{AllByRecursion}
use Rattle.symbols.specs.declared.ends.Ends.{Ends}
use Rattle.literals.specs.declared.lit.Lit.{Lit}
use Rattle.linear_normal.specs.declared.constraint.Item.{Item}
use Rattle.linear_normal.specs.Bounds.{bounds_named}
use Rattle.trail.specs.Implied.{implied}
use Rattle.trail.specs.Assignment.{Assignment, Names, is_true_on}
use Rattle.trail_bounds.specs.OnTrail.{bounds_on}
use Rattle.trail_bounds.specs.Sides.{side_least}

-- each literal follows from the list
abbrev pub Follow : Ends → List Lit → List Lit → Type 0
Follow ends lits more = AllByRecursion (λ m. implied ends lits m ≡ true) more

-- the literals that were added are true, and under any list from which they follow the item's least value is smaller than on the trail by no more than what was taken of the slack
pub record BacksOne (t : Assignment) (side : Bool) (item : Item) (slack left : ℕ) (old new : List Lit) : Type 0 where
  pub more : List Lit
  pub added : new ≡ old ++ more
  pub names : AllByRecursion (Names t.shape) more
  pub are_true : AllByRecursion (λ l. is_true_on t l ≡ true) more
  pub backs : (lits : List Lit) → Follow t.shape.ends lits more → (side_least side (bounds_on t) item +ℤ pos left) ≤ℤ (side_least side (bounds_named t.shape.ends lits) item +ℤ pos slack)
