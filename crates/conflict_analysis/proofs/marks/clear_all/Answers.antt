use Rattle.std.proofs.Common.{◌∙◌}
use Rattle.std.proofs.lemmas.List.{length-set}
use Rattle.conflict_analysis.specs.declared.marks.Mark.TheVariants.{Clear}
use Rattle.conflict_analysis.proofs.BoardLaws.{board_taken}
use Rattle.conflict_analysis.proofs.marks.clear_all.Goals as goal

pub clear-preserved : goal.clear-preserved
clear-preserved c = record {
  board = (board_taken c.clear.marks.items c.clear.touched.items c.pop.new.self.items c.in-Some.place c.in-Some.ensures.items c.clear.invariant.board).1;
  size = length-set c.clear.marks.items c.in-Some.place Clear ∙ c.clear.invariant.size;
}
