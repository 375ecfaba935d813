use Rattle.propagation.proofs.StepLaws.{all_undone, looked_undone}
use Rattle.propagation.proofs.steps.go_back.Goals as goal

pub returns-then-length-clause-stand : goal.returns-then-length-clause-stand
returns-then-length-clause-stand g c =
    let P = g.P.Propagator in
    all_undone P.stands P.looked c.args.propagators.now c.args.trail.now c.undo_to.new.self c.args.level c.length.result c.length-length.result c.length-length.ensures.assignment c.undo_to.ensures c.length.ensures.value c.length-length.ensures.value c.if-length.true c.requires.stand

pub returns-then-length-clause-looked : goal.returns-then-length-clause-looked
returns-then-length-clause-looked g c =
    looked_undone c.args.store.now.looked c.undo.new.self.looked c.args.trail.now c.undo_to.new.self c.args.level c.length-length.ensures.assignment c.undo_to.ensures c.requires.looked c.undo.ensures.front c.undo.ensures.within

pub returns-clause-looked : goal.returns-clause-looked
returns-clause-looked g c =
    looked_undone c.args.store.now.looked c.undo.new.self.looked c.args.trail.now c.undo_to.new.self c.args.level c.length-length.ensures.assignment c.undo_to.ensures c.requires.looked c.undo.ensures.front c.undo.ensures.within
