-- How a bound is backed, and how it is narrowed, by the sign of the coefficient. Only the code of this crate reads this file.
use Rattle.std.specs.Prelude.{◌≡◌, ℕ, ◌⊎◌, ℤ, pos, ◌+ℤ◌, ◌-ℤ◌, ◌*ℤ◌, ◌≤ℤ◌, ◌<ℤ◌}
use Rattle.literals.specs.declared.lit.Lit.{Lit}
use Rattle.linear_normal.specs.declared.constraint.Item.{Item}
use Rattle.linear_normal.specs.Bounds.{least_times}
use Rattle.trail_bounds.specs.Items.{at_least, at_most}
use Rattle.trail_bounds.specs.declared.backing.Backing.{Backing}
use Rattle.trail_bounds.specs.declared.backing.Backing.TheVariants.{Ends, Bound}

-- what the coefficient times a bound loses to a weaker bound is taken of the slack
abbrev pub Costs : ℤ → ℤ → ℤ → ℕ → ℕ → Type 0
Costs c strong weak slack left = ((c *ℤ strong) +ℤ pos left) ≤ℤ ((c *ℤ weak) +ℤ pos slack)

-- the literal says a lower bound, beyond the end and perhaps weaker than the range's
pub record BacksLow (item : Item) (c from min : ℤ) (slack left : ℕ) (lit : Lit) : Type 0 where
  pub sign : pos 0 ≤ℤ c
  pub bound : ℤ
  pub is : lit ≡ at_least item bound
  pub above : min <ℤ bound
  pub below : bound ≤ℤ from
  pub costs : Costs c from bound slack left

-- the same from above
pub record BacksHigh (item : Item) (c to max : ℤ) (slack left : ℕ) (lit : Lit) : Type 0 where
  pub sign : c <ℤ pos 0
  pub bound : ℤ
  pub is : lit ≡ at_most item bound
  pub above : to ≤ℤ bound
  pub below : bound <ℤ max
  pub costs : Costs c to bound slack left

-- the literal on which the least of the coefficient times a number of the range stands
abbrev pub IsBacking : Item → ℤ → ℤ → ℤ → ℤ → ℤ → ℕ → ℕ → Lit → Type 0
IsBacking item c from to min max slack left lit = BacksLow item c from min slack left lit ⊎ BacksHigh item c to max slack left lit

-- the ends say enough of it
abbrev pub IsBacked : ℤ → ℤ → ℤ → ℤ → ℤ → ℕ → ℕ → Type 0
IsBacked c from to min max slack left = ((pos 0 ≤ℤ c) × Costs c from min slack left) ⊎ ((c <ℤ pos 0) × Costs c to max slack left)

-- the ends or a literal back it
abbrev pub IsBackedBy : Item → ℤ → ℤ → ℤ → ℤ → ℤ → ℕ → Backing → Type 0
IsBackedBy item c from to min max slack (Ends left) = IsBacked c from to min max slack left
IsBackedBy item c from to min max slack (Bound lit left) = IsBacking item c from to min max slack left lit

-- the literal bounds the item from above within its range, and a number beyond makes it exceed the slack
pub record Lowers (item : Item) (c : ℤ) (slack : ℕ) (from to : ℤ) (lit : Lit) : Type 0 where
  pub bound : ℤ
  pub is : lit ≡ at_most item bound
  pub above : from ≤ℤ bound
  pub below : bound <ℤ to
  pub beyond : (p q : ℤ) → (bound +ℤ pos 1) ≤ℤ p → (least_times c from to +ℤ pos slack) <ℤ least_times c p q

-- the same from below
pub record Raises (item : Item) (c : ℤ) (slack : ℕ) (from to : ℤ) (lit : Lit) : Type 0 where
  pub bound : ℤ
  pub is : lit ≡ at_least item bound
  pub above : from <ℤ bound
  pub below : bound ≤ℤ to
  pub beyond : (p q : ℤ) → q ≤ℤ (bound -ℤ pos 1) → (least_times c from to +ℤ pos slack) <ℤ least_times c p q

abbrev pub Narrows : Item → ℤ → ℕ → ℤ → ℤ → Lit → Type 0
Narrows item c slack from to lit = Lowers item c slack from to lit ⊎ Raises item c slack from to lit
