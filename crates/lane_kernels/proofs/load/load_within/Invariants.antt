use Rattle.std.proofs.Common.{length, ◌-◌, ◌*◌, ◌≡◌, ◌≤◌, drop, pos, ◌+ℤ◌, ◌≤ℤ◌}
use Rattle.lane_kernels.specs.Columns.{within_load}
use Rattle.lane_kernels.proofs.load.load_within.Given as goal

abbrev pub invariant-loop-place : goal.invariant-loop-place
invariant-loop-place l = record {
  loaded : l.load +ℤ within_load l.a l.b (drop l.place l.lows) (drop l.place l.highs) (drop l.place l.durations)
      ≡ within_load l.a l.b l.lows l.highs l.durations;
  least : pos 0 ≤ℤ l.load;
  most : l.load ≤ℤ pos (l.place * 2147483647);
  in_range : l.place ≤ length l.lows;
}

abbrev pub decreases-loop-place : goal.decreases-loop-place
decreases-loop-place l = length l.lows - l.place
