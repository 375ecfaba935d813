use Rattle.std.proofs.Common.{◌≡◌, length}
use Rattle.conflict_analysis.specs.Marked.{IsBoard}
use Rattle.conflict_analysis.proofs.marks.clear_all.Given as goal

abbrev pub invariant-clear : goal.invariant-clear
invariant-clear l = record {
  board : IsBoard l.marks.items l.touched.items;
  size : length l.marks.items ≡ length l.initial.marks.items;
}

abbrev pub decreases-clear : goal.decreases-clear
decreases-clear l = length l.touched.items
