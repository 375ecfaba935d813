use Rattle.std.proofs.Common.{◌≡◌, ◌≤◌, ◌^◌, ◌+◌, ◌*◌, ◌+ℤ◌, drop, unsigned_abs}
use Rattle.ground_model.specs.Sound.{least_sum}
use Rattle.large_values.specs.inner.Numbers.{AreSmallPairs}
use Rattle.large_values.proofs.values.least_value.Given as goal

abbrev pub invariant-loop-coefficient : goal.invariant-loop-coefficient
invariant-loop-coefficient l = record {
  so_far : l.sum +ℤ least_sum l.ends (drop l.coefficient-index l.coefficient-items) ≡ least_sum l.ends l.coefficient-items +ℤ l.fn.linear.constant;
  left : AreSmallPairs (drop l.coefficient-index l.coefficient-items);
  size : unsigned_abs l.sum ≤ 2 ^ 62 + l.coefficient-index * 2 ^ 92;
}
