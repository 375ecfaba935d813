-- The literal that an item needs within a slack.
use Rattle.std.specs.Prelude.{◌≡◌, ℕ, Bool, true, pos, ◌+ℤ◌, ◌<ℤ◌, List, None}
use Rattle.literals.specs.declared.lit.Lit.{Lit}
use Rattle.literals.specs.Lits.{complement_of}
use Rattle.linear_normal.specs.declared.constraint.Item.{Item}
use Rattle.linear_normal.specs.Bounds.{bounds_named}
use Rattle.trail.specs.Implied.{implied}
use Rattle.trail.specs.Assignment.{Assignment, Names, truth_on}
use Rattle.trail_bounds.specs.OnTrail.{bounds_on}
use Rattle.trail_bounds.specs.Sides.{side_least}

-- the literal is open on the trail, and under any list from which its opposite follows the item exceeds its least value on the trail by more than the slack
pub record IsNeeded (t : Assignment) (side : Bool) (item : Item) (slack : ℕ) (l : Lit) : Type 0 where
  pub names : Names t.shape l
  pub opposite : Names t.shape (complement_of l)
  pub is_open : truth_on t l ≡ None
  pub beyond : (lits : List Lit) → implied t.shape.ends lits (complement_of l) ≡ true → (side_least side (bounds_on t) item +ℤ pos slack) <ℤ side_least side (bounds_named t.shape.ends lits) item
