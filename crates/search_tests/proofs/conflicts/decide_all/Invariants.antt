use Rattle.std.proofs.Common.{◌≡◌}
use Rattle.conflict_analysis.specs.Justified.{IsJustified}
use Rattle.search_tests.proofs.conflicts.decide_all.Given as goal

abbrev pub invariant-loop-lit : goal.invariant-loop-lit
invariant-loop-lit l = record {
  justified : IsJustified l.store.held l.trail;
  shape : l.trail.shape ≡ l.fn.trail.shape;
}
