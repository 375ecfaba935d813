use Rattle.std.proofs.Common.{refl, ◌∙◌}
use Rattle.nogood_store.proofs.HeldLaws.{get_any}
use Rattle.conflict_analysis.specs.declared.marks.Mark.TheVariants.{Clear}
use Rattle.conflict_analysis.proofs.BoardLaws.{board_taken, takes}
use Rattle.conflict_analysis.proofs.marks.Marks.take.Goals as goal

pub invariant_of-self : goal.invariant_of-self
invariant_of-self c = (board_taken c.self.inside.marks.items c.self.inside.touched.items c.pop.new.self.items c.in-Some.place c.in-Some.ensures.items c.self.invariant).1

pub returns-in-Some : goal.returns-in-Some
returns-in-Some c =
    let taken = board_taken c.self.inside.marks.items c.self.inside.touched.items c.pop.new.self.items c.in-Some.place c.in-Some.ensures.items c.self.invariant in
    takes _ c.args.self.now _ c.in-Some.place c.index-mark.result.now c.self.view_is c.in-Some.ensures.items taken.0
    (c.index-mark.ensures ∙ get_any c.self.inside.marks.items c.in-Some.place c.index-mark.result.now Clear taken.0) refl
