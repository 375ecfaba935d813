use Rattle.std.proofs.Common.{◌≡◌, ℕ, drop}
use Rattle.conflict_analysis.specs.Marked.{Fits, IsMark, mark_at, high_count}
use Rattle.conflict_analysis.specs.inner.Runs.{boards_with, all_but}
use Rattle.conflict_analysis.proofs.put.put_all.Given as goal

abbrev pub invariant-loop-lit : goal.invariant-loop-lit
invariant-loop-lit l = record {
  fits : Fits l.trail.shape l.marks;
  marks : (i : ℕ) → IsMark l.trail (mark_at l.marks i);
  counted : l.count ≡ high_count l.trail l.high l.marks.marks;
  board : boards_with l.trail l.fn.marks (all_but l.out l.lits) ≡ boards_with l.trail l.marks (all_but l.out (drop l.lit-index l.lits));
}
