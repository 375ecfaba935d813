use Rattle.std.proofs.Common.{◌-◌, ◌*◌, ◌≡◌, drop, pos, ◌+ℤ◌, ◌≤ℤ◌}
use Rattle.lane_kernels.specs.Columns.{within_load}
use Rattle.lane_kernels.proofs.load.load_rest.Given as goal

abbrev pub invariant-loop-place : goal.invariant-loop-place
invariant-loop-place l = record {
  loaded : l.load +ℤ within_load l.a l.b (drop l.place l.lows) (drop l.place l.highs) (drop l.place l.durations)
      ≡ within_load l.a l.b (drop l.start l.lows) (drop l.start l.highs) (drop l.start l.durations);
  least : pos 0 ≤ℤ l.load;
  most : l.load ≤ℤ pos ((l.place - l.start) * 2147483647);
}
