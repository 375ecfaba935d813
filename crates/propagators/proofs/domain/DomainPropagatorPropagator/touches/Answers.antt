use Rattle.propagators.proofs.QuietLaws.{steady}
use Rattle.propagators.proofs.domain.DomainPropagatorPropagator.touches.Goals as goal

pub returns-clause-steady : goal.returns-clause-steady
returns-clause-steady c = steady c.args.self.now.domain.number c.args.self.now.domain.variable c.args.self.now.domain.set
