use Rattle.std.proofs.Common.{◌∙◌}
use Rattle.propagation.proofs.RowLaws.{stands_more, stands_all, kept_then}
use Rattle.propagation.proofs.wakes.note_all.Goals as goal

pub loop-touch-preserved : goal.loop-touch-preserved
loop-touch-preserved g c = record {
  kept = kept_then c.args.wakes.now c.loop-touch.wakes c.note.new.wakes c.loop-touch.invariant.kept c.in_ok-note.ensures.kept;
  there = stands_more c.loop-touch.wakes c.note.new.wakes c.args.place c.items-touch-items.result.now c.loop-touch.touch-index _ c.loop-touch-test.true c.in_ok-note.ensures.kept c.loop-touch.invariant.there c.in_ok-note.ensures.there;
  rows = λ s n lt h. c.in_ok-note.ensures.rows s n lt (c.loop-touch.invariant.rows s n lt h);
}

pub returns-clause-there : goal.returns-clause-there
returns-clause-there g c =
    stands_all c.loop-touch.wakes c.args.place c.items-touch-items.result.now (g.P.Propagator.meaning c.args.propagator.now).touches c.loop-touch.touch-index c.loop-touch-test.false (c.items-touch-items.ensures ∙ c.in_ok-touches.ensures.value) c.loop-touch.invariant.there
