use Rattle.std.proofs.Common.{◌≡◌, ◌≤◌, ◌*◌, ◌^◌, ◌+ℤ◌, drop, unsigned_abs}
use Rattle.linear_normal.specs.Bounds.{bounds_named, greatest_sum}
use Rattle.step_rules.proofs.sums.greatest_sum.Given as goal

abbrev pub invariant-loop-item : goal.invariant-loop-item
invariant-loop-item l = record {
  so_far : l.sum +ℤ greatest_sum (bounds_named l.fn.ends l.fn.lits) (drop l.item-index l.items) ≡ greatest_sum (bounds_named l.fn.ends l.fn.lits) l.fn.items;
  size : unsigned_abs l.sum ≤ l.item-index * 2 ^ 94;
}
