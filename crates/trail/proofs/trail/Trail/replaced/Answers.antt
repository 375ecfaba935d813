use Rattle.std.proofs.Common.{ap}
use Rattle.trail.specs.Assignment.{Assignment}
use Rattle.trail.proofs.ReplacedLaws.{replaced-at}
use Rattle.trail.proofs.trail.Trail.replaced.Goals as goal

pub returns : goal.returns
returns c =
    replaced-at c.args.self.now c.self.inside.shape c.self.inside.slots.items c.args.index c.index.result.now c.replaced_by.result
    (ap (λ (t : Assignment). t.shape) c.self.view_is) (ap (λ (t : Assignment). t.entries) c.self.view_is) c.self.invariant.saved c.requires c.index.ensures c.replaced_by.ensures
