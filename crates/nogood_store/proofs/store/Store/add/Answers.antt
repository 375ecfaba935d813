use Rattle.std.proofs.Common.{List, sym, subst}
use Rattle.nogood_store.specs.declared.slot.Slot.{Slot}
use Rattle.nogood_store.specs.Holding.{Holding, AreBelow}
use Rattle.nogood_store.specs.inner.Watching.{IsStored}
use Rattle.nogood_store.proofs.HeldLaws.{slots_added}
use Rattle.nogood_store.proofs.Ending.{stored_added}
use Rattle.nogood_store.proofs.store.Store.add.Goals as goal

pub invariant_of-self-2 : goal.invariant_of-self-2
invariant_of-self-2 c =
    subst (λ (ss : List Slot). IsStored ss c.self.inside.watching) (sym c.in_ok-push.ensures.items)
    (stored_added c.self.inside.slots.items (record { id = c.args.id; nogood = c.args.nogood }) c.self.inside.watching
    (slots_added c.self.inside.slots.items (record { id = c.args.id; nogood = c.args.nogood }) c.self.invariant.ascend
    (subst (λ (v : Holding). AreBelow c.args.id v.held) (sym c.self.view_is) c.requires))
    c.self.invariant)
