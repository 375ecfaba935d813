use Rattle.std.proofs.Common.{ℕ, ◌<◌, get_or}
use Rattle.linear_normal.specs.declared.constraint.Item.{Item}
use Rattle.trail_bounds.specs.OnTrail.{bounds_on}
use Rattle.sum_propagator.specs.Sums.{IsWithin}
use Rattle.sum_propagator.proofs.sum.widest_on.Given as goal

abbrev pub invariant-loop-item : goal.invariant-loop-item
invariant-loop-item l = (k : ℕ) (d : Item) → k < l.item-index → IsWithin l.widest (bounds_on l.trail) (get_or l.items k d)
