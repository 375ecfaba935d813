use Rattle.std.proofs.Common.{◌≡◌, ◌≤◌, ◌*◌, ◌^◌, ◌+ℤ◌, drop, unsigned_abs}
use Rattle.linear_normal.specs.Bounds.{bounds_named, greatest_pairs}
use Rattle.step_rules.proofs.sums.greatest_pairs.Given as goal

abbrev pub invariant-loop-pair : goal.invariant-loop-pair
invariant-loop-pair l = record {
  so_far : l.sum +ℤ greatest_pairs (bounds_named l.fn.ends l.fn.lits) (drop l.pair-index l.pairs) ≡ greatest_pairs (bounds_named l.fn.ends l.fn.lits) l.fn.pairs;
  size : unsigned_abs l.sum ≤ l.pair-index * 2 ^ 94;
}
