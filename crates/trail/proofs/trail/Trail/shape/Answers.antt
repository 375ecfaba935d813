use Rattle.trail.proofs.KeptLaws.{assignment}
use Rattle.trail.proofs.trail.Trail.shape.Goals as goal

pub returns-clause-assignment : goal.returns-clause-assignment
returns-clause-assignment c = assignment c.args.self.now c.self.inside.shape c.self.inside.level c.self.inside.slots.items c.self.inside.cells c.self.inside.orders c.self.view_is c.self.invariant
