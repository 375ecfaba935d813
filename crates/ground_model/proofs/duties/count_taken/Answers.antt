use Rattle.std.proofs.Common.{sym, ◌∙◌}
use Rattle.ground_model.specs.World.{world_by}
use Rattle.ground_model.proofs.MarkLemmas.{chosen_atom}
use Rattle.ground_model.proofs.duties.count_taken.Goals as goal

pub clear_marks-requires-clause-marks : goal.clear_marks-requires-clause-marks
clear_marks-requires-clause-marks c =
    λ a e. chosen_atom (world_by c.args.flags.now c.args.values.now) c.args.items.now a (sym (c.mark_taken-count.ensures.marks a) ∙ e)
