use Rattle.std.proofs.Common.{ℕ, ◌<◌, ◌≤◌, ◌^◌, get_or}
use Rattle.std.specs.Int.RustNames.{unsigned_abs}
use Rattle.linear_normal.specs.declared.constraint.Item.{Item}
use Rattle.trail_bounds.specs.Items.{coefficient_of}
use Rattle.sum_propagator.proofs.sum.coefficients.Given as goal

abbrev pub invariant-loop-item : goal.invariant-loop-item
invariant-loop-item l = (k : ℕ) (d : Item) → k < l.item-index → unsigned_abs (coefficient_of (get_or l.items k d)) ≤ 2 ^ 63
