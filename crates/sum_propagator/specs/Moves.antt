-- How entries move the totals. Only the code of this crate reads this file.
use Rattle.std.specs.Prelude.{◌≡◌, ℕ, ◌+◌, ◌*◌, ◌^◌, ◌<◌, ◌≤◌, ◌⊎◌, Bool, true, false, not, cond, ℤ, pos, negsuc, ◌+ℤ◌, ◌-ℤ◌, ◌*ℤ◌, List, length, get_or, take, Option, None, Some}
use Rattle.std.specs.Int.RustNames.{unsigned_abs}
use Rattle.literals.specs.declared.lit.Lit.{Lit}
use Rattle.literals.specs.declared.lit.Lit.TheVariants.{Atom, Body, Constraint, AtMost, AtLeast}
use Rattle.linear_normal.specs.declared.constraint.Item.{Item}
use Rattle.linear_normal.specs.declared.constraint.Item.TheVariants.{Value, Truth}
use Rattle.linear_normal.specs.Bounds.{least_sum, greatest_sum}
use Rattle.trail.specs.Assignment.{Assignment}
use Rattle.trail_bounds.specs.OnTrail.{bounds_on}
use Rattle.trail_bounds.specs.Items.{coefficient_of}
use Rattle.sum_propagator.specs.Sides.{AreSmall}
use Rattle.sum_propagator.specs.declared.sum.Totals.{Totals}
use Rattle.sum_propagator.specs.declared.moves.Move.{Move}

-- the trail with its first entries alone
abbrev pub front : Assignment → ℕ → Assignment
front t n = record t { entries = take n t.entries }

-- a number of its own for each variable and each constraint
abbrev pub key_in : Item → ℕ
key_in (Value x c) = 2 * x
key_in (Truth n c) = 2 * n + 1

-- the keys rise from item to item
abbrev pub AreRising : List Item → Type 0
AreRising items = (i j : ℕ) (d : Item) → i < j → j < length items → key_in (get_or items i d) < key_in (get_or items j d)

-- each coefficient has 64 bits
abbrev pub AreCoefficients : List Item → Type 0
AreCoefficients items = (k : ℕ) (d : Item) → k < length items → unsigned_abs (coefficient_of (get_or items k d)) ≤ 2 ^ 63

-- a truth counted
abbrev pub bit : Bool → ℤ
bit true = pos 1
bit false = pos 0

abbrev pub bound_move : ℕ → Bool → ℤ → Option ℤ → Option Move
bound_move x lower k None = None
bound_move x lower k (Some from) = Some (record { key = 2 * x; lower = lower; from = from; to = k })

-- what the literal moves, where this is the bound that it replaced
abbrev pub move_of : Lit → Option ℤ → Option Move
move_of (Atom n sign) replaced = None
move_of (Body n sign) replaced = None
move_of (Constraint n sign) replaced = Some (record { key = 2 * n + 1; lower = sign; from = bit (not sign); to = bit sign })
move_of (AtMost x k) replaced = bound_move x false k replaced
move_of (AtLeast x k) replaced = bound_move x true k replaced

-- a lower, or an upper, bound of what an item of this coefficient counts moves the least sum and not the greatest
abbrev pub moves_least : ℤ → Bool → Bool
moves_least (pos n) lower = lower
moves_least (negsuc n) lower = not lower

-- by how much the coefficient times a bound grows
abbrev pub step_by : ℤ → ℤ → ℤ → ℤ
step_by c from to = (c *ℤ to) -ℤ (c *ℤ from)

-- the totals are the least and the greatest sum, and far within 128 bits
pub record AreTotals (t : Assignment) (items : List Item) (totals : Totals) : Type 0 where
  pub least : totals.least ≡ least_sum (bounds_on t) items
  pub greatest : totals.greatest ≡ greatest_sum (bounds_on t) items
  pub small : AreSmall totals

-- the item of the move's key stands at this place, and its step is added
pub record MovesItem (items : List Item) (m : Move) (totals after : Totals) : Type 0 where
  pub at : ℕ
  pub item : Item
  pub within : at < length items
  pub is : (d : Item) → get_or items at d ≡ item
  pub key : key_in item ≡ m.key
  pub least : after.least ≡ totals.least +ℤ cond (moves_least (coefficient_of item) m.lower) (step_by (coefficient_of item) m.from m.to) (pos 0)
  pub greatest : after.greatest ≡ totals.greatest +ℤ cond (moves_least (coefficient_of item) m.lower) (pos 0) (step_by (coefficient_of item) m.from m.to)

-- no item has the key
abbrev pub Lacks : List Item → ℕ → Type 0
Lacks items key = (k : ℕ) (d : Item) → k < length items → key_in (get_or items k d) ≡ key → ⊥

-- no item moves, or one does
abbrev pub IsMoved : List Item → Move → Totals → Totals → Type 0
IsMoved items m totals after = (Lacks items m.key × (after ≡ totals)) ⊎ MovesItem items m totals after
