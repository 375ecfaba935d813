use Rattle.std.proofs.Common.{◌≡◌, ◌≤◌, ◌^◌, ◌+◌, ◌*◌, ◌+ℤ◌, drop, unsigned_abs}
use Rattle.ground_model.specs.Truth.{pairs_value, value_of}
use Rattle.ground_model.specs.View.{linear_of}
use Rattle.ground_model.specs.Answers.{value_at}
use Rattle.linear_normal.proofs.values.linear_value.Given as goal

abbrev pub invariant-loop-variable : goal.invariant-loop-variable
invariant-loop-variable l = record {
  so_far : l.sum +ℤ pairs_value (value_at l.fn.values) (drop l.variable-index l.variable-items) ≡ value_of (value_at l.fn.values) (linear_of l.fn.linear);
  size : unsigned_abs l.sum ≤ 2 ^ 63 + l.variable-index * 2 ^ 94;
}
