use Rattle.std.proofs.Common.{◌≡◌, ◌≤◌, ◌*◌, ◌^◌, ◌+ℤ◌, drop, unsigned_abs}
use Rattle.linear_normal.specs.Bounds.{bounds_named, least_pairs}
use Rattle.step_rules.proofs.sums.least_pairs.Given as goal

abbrev pub invariant-loop-pair : goal.invariant-loop-pair
invariant-loop-pair l = record {
  so_far : l.sum +ℤ least_pairs (bounds_named l.fn.ends l.fn.lits) (drop l.pair-index l.pairs) ≡ least_pairs (bounds_named l.fn.ends l.fn.lits) l.fn.pairs;
  size : unsigned_abs l.sum ≤ l.pair-index * 2 ^ 94;
}
