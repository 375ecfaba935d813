use Rattle.std.proofs.Common.{length, ◌+ℤ◌, pos, ◌-◌, ◌≤◌}
use Rattle.lane_kernels.specs.inner.Hits.{AreHits}
use Rattle.lane_kernels.proofs.count.count_after.Given as goal

abbrev pub invariant-loop-place : goal.invariant-loop-place
invariant-loop-place l = record {
  hits : AreHits (l.before +ℤ pos 1) l.b l.lows l.highs 0 l.place l.hits;
  in_range : l.place ≤ length l.lows;
}

abbrev pub decreases-loop-place : goal.decreases-loop-place
decreases-loop-place l = length l.lows - l.place
