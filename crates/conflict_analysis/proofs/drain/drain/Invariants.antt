use Rattle.std.proofs.Common.{length, [], ℕ}
use Rattle.conflict_analysis.specs.Marked.{mark_at}
use Rattle.conflict_analysis.specs.inner.Runs.{Setting, Drains, LitOfMark}
use Rattle.conflict_analysis.proofs.drain.drain.Given as goal

abbrev pub invariant-drain : goal.invariant-drain
invariant-drain l = record {
  left : (of : Setting) → Drains of l.fn.chain l.fn.marks [] → Drains of l.chain l.marks l.kept;
  literals : (i : ℕ) → LitOfMark (mark_at l.marks i);
}

abbrev pub decreases-drain : goal.decreases-drain
decreases-drain l = length l.marks.touched
