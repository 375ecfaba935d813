use Rattle.propagator_core.specs.Shown.{IsShown}
use Rattle.sum_propagator.specs.Kinds.{meaning_of}
use Rattle.sum_propagator.proofs.Widths.{stands_now, totals_stand, widths_stand}
use Rattle.sum_propagator.proofs.sum_propagator.SumPropagatorPropagator.propagate.Goals as goal

pub look-totals-requires-clause-stands : goal.look-totals-requires-clause-stands
look-totals-requires-clause-stands c = totals_stand c.args.trail.now c.args.self.now.sum.items c.args.self.now.totals c.args.self.now.widest c.args.self.now.seen c.requires.stands

pub answer-requires-clause-widest : goal.answer-requires-clause-widest
answer-requires-clause-widest c = widths_stand c.args.trail.now c.args.self.now.sum.items c.args.self.now.totals c.args.self.now.widest c.args.self.now.seen c.requires.stands

pub returns-clause-stands : goal.returns-clause-stands
returns-clause-stands c =
    stands_now (IsShown (meaning_of c.args.self.now.sum.kind c.args.self.now.sum.number c.args.self.now.sum.items c.args.self.now.sum.most).valid) c.args.trail.now c.answer.new.trail c.args.self.now.sum.items c.kept-self.result c.look-totals.result c.answer.new.widest c.length-length.result
    c.answer.ensures.grows c.length-length.ensures.value c.kept-self.ensures.none c.kept-self.ensures.some c.look-totals.ensures.least c.look-totals.ensures.greatest c.answer.ensures.widest
