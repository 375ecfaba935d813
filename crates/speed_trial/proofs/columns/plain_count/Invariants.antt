use Rattle.std.proofs.Common.{◌≡◌, ◌+◌, ◌≤◌, drop}
use Rattle.lane_kernels.specs.Columns.{within_count}
use Rattle.speed_trial.proofs.columns.plain_count.Given as goal

abbrev pub invariant-loop-place : goal.invariant-loop-place
invariant-loop-place l = record {
  counted : l.count + within_count l.a l.b (drop l.place l.lows) (drop l.place l.highs) ≡ within_count l.a l.b l.lows l.highs;
  most : l.count ≤ l.place;
}
