use Rattle.std.proofs.Common.{◌≡◌, ◌≤◌, ◌*◌, ◌^◌, drop, ◌+ℤ◌, unsigned_abs}
use Rattle.linear_totals.specs.inner.Sums.{constants}
use Rattle.linear_totals.proofs.constants.is_small_constant.Given as goal

abbrev pub invariant-loop-place : goal.invariant-loop-place
invariant-loop-place l = record {
  sum : l.sum +ℤ constants (drop l.place l.places) ≡ constants l.places;
  size : unsigned_abs l.sum ≤ l.place * 2 ^ 62;
}
