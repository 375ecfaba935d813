use Rattle.conflict_analysis.proofs.FinalLaws.{none_settled}
use Rattle.conflict_analysis.proofs.resolve.resolve_all.Goals as goal

pub returns-in-None : goal.returns-in-None
returns-in-None g c =
    (c.resolve.at, c.resolve.count, c.resolve.invariant.run, none_settled c.args.store.now.held c.args.trail.now g.first c.resolve.chain c.args.high c.resolve.at c.resolve.marks c.resolve.count c.resolve.invariant.assignment c.resolve.invariant.run c.in-None.ensures)
