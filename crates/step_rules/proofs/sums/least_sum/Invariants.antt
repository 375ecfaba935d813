use Rattle.std.proofs.Common.{◌≡◌, ◌≤◌, ◌*◌, ◌^◌, ◌+ℤ◌, drop, unsigned_abs}
use Rattle.linear_normal.specs.Bounds.{bounds_named, least_sum}
use Rattle.step_rules.proofs.sums.least_sum.Given as goal

abbrev pub invariant-loop-item : goal.invariant-loop-item
invariant-loop-item l = record {
  so_far : l.sum +ℤ least_sum (bounds_named l.fn.ends l.fn.lits) (drop l.item-index l.items) ≡ least_sum (bounds_named l.fn.ends l.fn.lits) l.fn.items;
  size : unsigned_abs l.sum ≤ l.item-index * 2 ^ 94;
}
