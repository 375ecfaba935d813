-- How the literals of a reason are gathered. Only the code of this crate reads this file.
use Rattle.std.specs.Prelude.{◌≡◌, ℕ, zero, suc, ◌<◌, ◌⊎◌, Bool, true, ℤ, pos, ◌+ℤ◌, ◌≤ℤ◌, List, [], ◌∷◌, ◌++◌, length, take}
use Rattle.std.specs.List.{AllByRecursion}
use Rattle.literals.specs.declared.lit.Lit.{Lit}
use Rattle.literals.specs.Nogoods.{Rises}
use Rattle.literals.specs.declared.reason.Reason.{Reason}
use Rattle.trail.specs.Implied.{implied}
use Rattle.trail.specs.Assignment.{Assignment, Names, is_true_on}
use Rattle.linear_normal.specs.declared.constraint.Item.{Item}
use Rattle.linear_normal.specs.Bounds.{Bounds, bounds_named}
use Rattle.trail_bounds.specs.OnTrail.{bounds_on}
use Rattle.trail_bounds.specs.Sides.{side_least, side_sum}
use Rattle.trail_bounds.specs.Backing.{Follow}
use Rattle.sum_propagator.specs.declared.sum.Kind.{Kind}
use Rattle.sum_propagator.specs.Kinds.{step_of, own_lits}

-- the least sum without the item at this place, if there is one
abbrev pub sum_but : Bool → Bounds → List Item → ℕ → ℤ
sum_but side b [] but = pos 0
sum_but side b (item ∷ items) zero = side_sum side b items
sum_but side b (item ∷ items) (suc but) = side_least side b item +ℤ sum_but side b items but

-- the literal takes the place of the item here, which is one of the first, or it is true on the trail
abbrev pub IsInstead : Assignment → ℕ → ℕ → Lit → Lit → Type 0
IsInstead t but upto instead m = ((but < upto) × (m ≡ instead)) ⊎ (is_true_on t m ≡ true)

-- the literals that were added are true but for the other one, and under any list from which they follow the least sum of the first items but one is smaller than on the trail by no more than what was taken of the slack
pub record Backs (t : Assignment) (side : Bool) (items : List Item) (but : ℕ) (instead : Lit) (slack left upto : ℕ) (old new : List Lit) : Type 0 where
  pub more : List Lit
  pub added : new ≡ old ++ more
  pub names : AllByRecursion (Names t.shape) more
  pub each : AllByRecursion (IsInstead t but upto instead) more
  pub has : (lits : List Lit) → Follow t.shape.ends lits more → but < upto → implied t.shape.ends lits instead ≡ true
  pub covers : (lits : List Lit) → Follow t.shape.ends lits more → (sum_but side (bounds_on t) (take upto items) but +ℤ pos left) ≤ℤ (sum_but side (bounds_named t.shape.ends lits) (take upto items) but +ℤ pos slack)

abbrev pub IsAmong : List Lit → Lit → Type 0
IsAmong [] m = ⊥
IsAmong (l ∷ ls) m = (m ≡ l) ⊎ IsAmong ls m

-- the literal is one of these, or it takes the place of an item, or it is true on the trail
abbrev pub IsOwnOr : Assignment → List Lit → ℕ → ℕ → Lit → Lit → Type 0
IsOwnOr t own but upto instead m = IsAmong own m ⊎ IsInstead t but upto instead m

-- the reason has the sum's own literal, the other literal, and true literals by which the least sum of the items but one is smaller than on the trail by no more than the slack
pub record Explains (t : Assignment) (kind : Kind) (number : ℕ) (items : List Item) (side : Bool) (but : ℕ) (instead : Lit) (slack : ℕ) (r : Reason) : Type 0 where
  pub step : r.step ≡ step_of kind number
  pub rises : Rises r.nogood
  pub names : AllByRecursion (Names t.shape) r.nogood
  pub listed : Follow t.shape.ends r.nogood (own_lits kind number side)
  pub has : but < length items → implied t.shape.ends r.nogood instead ≡ true
  pub covers : sum_but side (bounds_on t) items but ≤ℤ (sum_but side (bounds_named t.shape.ends r.nogood) items but +ℤ pos slack)
  pub each : AllByRecursion (IsOwnOr t (own_lits kind number side) but (length items) instead) r.nogood
