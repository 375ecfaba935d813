use Rattle.std.proofs.Common.{subst}
use Rattle.nogood_store.specs.Holding.{Holding, Ascends}
use Rattle.nogood_store.proofs.HeldLaws.{held_ascends}
use Rattle.nogood_store.proofs.store.Store.live.Goals as goal

pub returns-clause-ascends : goal.returns-clause-ascends
returns-clause-ascends c = subst (λ (v : Holding). Ascends v.held) c.self.view_is (held_ascends c.self.inside.slots.items c.self.invariant.ascend)
