use Rattle.std.proofs.Common.{ℕ, ◌<◌, ◌^◌, get_or}
use Rattle.linear_normal.specs.declared.constraint.Item.{Item}
use Rattle.trail_bounds.specs.Items.{counted_number}
use Rattle.sum_propagator.proofs.sum.few.Given as goal

abbrev pub invariant-loop-item : goal.invariant-loop-item
invariant-loop-item l = (k : ℕ) (d : Item) → k < l.item-index → counted_number (get_or l.items k d) < 2 ^ 32
