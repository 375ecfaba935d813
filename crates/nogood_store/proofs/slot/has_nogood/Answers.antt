use Rattle.std.proofs.Common.{sym, refl}
use Rattle.nogood_store.proofs.HeldLaws.{held_there, held_nowhere}
use Rattle.nogood_store.proofs.slot.has_nogood.Goals as goal

pub returns-then-eq : goal.returns-then-eq
returns-then-eq c = (λ e. held_there c.args.slots.now c.loop-slot.slot-index c.slot-item.result c.args.nogood.now c.loop-slot-test.true c.slot-item.is (sym c.if-eq.ensures), λ h. refl)

pub returns : goal.returns
returns c = (λ e. cc, λ h. absurd (held_nowhere c.args.slots.now c.args.nogood.now c.loop-slot.slot-index c.loop-slot-test.false c.loop-slot.invariant h))
