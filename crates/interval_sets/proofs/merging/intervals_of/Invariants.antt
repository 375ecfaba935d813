use Rattle.std.proofs.Common.{◌≡◌, ◌++◌, drop, None}
use Rattle.interval_sets.specs.inner.Joins.{joined}
use Rattle.interval_sets.proofs.merging.intervals_of.Given as goal

abbrev pub invariant-loop-place : goal.invariant-loop-place
invariant-loop-place l = l.intervals ++ joined l.growing (drop l.place l.ranges) ≡ joined None l.ranges
