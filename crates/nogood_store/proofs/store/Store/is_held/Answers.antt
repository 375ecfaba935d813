use Rattle.std.proofs.Common.{List, IsTrue, subst}
use Rattle.std.specs.Prelude.{◌↔◌}
use Rattle.nogood_store.specs.declared.slot.Slot.{Slot}
use Rattle.nogood_store.specs.Holding.{Holding, IsHeld}
use Rattle.nogood_store.specs.Kept.{held_of}
use Rattle.nogood_store.proofs.store.Store.is_held.Goals as goal

pub returns : goal.returns
returns c =
    subst (λ (v : Holding). IsTrue c.has_nogood.result ↔ IsHeld v.held c.args.nogood.now) c.self.view_is
    (subst (λ (l : List Slot). IsTrue c.has_nogood.result ↔ IsHeld (held_of l) c.args.nogood.now) c.deref.ensures.value c.has_nogood.ensures)
