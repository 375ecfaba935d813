use Rattle.sum_propagator.proofs.Resting.{steady_kind}
use Rattle.sum_propagator.proofs.sum_propagator.SumPropagatorPropagator.touches.Goals as goal

pub returns-clause-steady : goal.returns-clause-steady
returns-clause-steady c = steady_kind c.args.self.now.sum.kind c.args.self.now.sum.number c.args.self.now.sum.items c.args.self.now.sum.most c.args.self.now.sum.are_items
