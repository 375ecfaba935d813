use Rattle.std.proofs.Common.{◌≤◌, length}
use Rattle.trail.specs.Assignment.{IsAssignment}
use Rattle.conflict_analysis.specs.inner.Runs.{Runs}
use Rattle.conflict_analysis.proofs.resolve.resolve_all.Given as goal

abbrev pub ghost-resolve_at : goal.ghost-resolve_at
ghost-resolve_at g a = g.first

abbrev pub invariant-resolve : goal.invariant-resolve
invariant-resolve g l = record {
  assignment : IsAssignment l.trail;
  within : l.at ≤ length l.trail.entries;
  run : Runs l.store.held l.trail g.first l.chain l.high l.at l.marks l.count;
}

abbrev pub decreases-resolve : goal.decreases-resolve
decreases-resolve g l = l.at
