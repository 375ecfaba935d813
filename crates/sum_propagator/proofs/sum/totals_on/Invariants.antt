use Rattle.std.proofs.Common.{◌≡◌, ◌≤◌, ◌*◌, ◌^◌, drop, ◌+ℤ◌}
use Rattle.std.specs.Int.RustNames.{unsigned_abs}
use Rattle.linear_normal.specs.Bounds.{least_sum, greatest_sum}
use Rattle.trail_bounds.specs.OnTrail.{bounds_on}
use Rattle.sum_propagator.proofs.sum.totals_on.Given as goal

abbrev pub invariant-loop-item : goal.invariant-loop-item
invariant-loop-item l = record {
  least : l.totals.least +ℤ least_sum (bounds_on l.trail) (drop l.item-index l.items) ≡ least_sum (bounds_on l.trail) l.items;
  greatest : l.totals.greatest +ℤ greatest_sum (bounds_on l.trail) (drop l.item-index l.items) ≡ greatest_sum (bounds_on l.trail) l.items;
  least_small : unsigned_abs l.totals.least ≤ l.item-index * 2 ^ 93;
  greatest_small : unsigned_abs l.totals.greatest ≤ l.item-index * 2 ^ 93;
}
