use Rattle.std.proofs.Common.{◌≡◌, ℕ, ◌<◌, false, length, get_or}
use Rattle.literals.specs.contracts.nogood.NogoodPartialEq.TheImpl.{ghosts as of_nogood}
use Rattle.nogood_store.specs.declared.slot.Slot.{Slot}
use Rattle.nogood_store.proofs.slot.has_nogood.Given as goal

abbrev pub invariant-loop-slot : goal.invariant-loop-slot
invariant-loop-slot l = (k : ℕ) (d : Slot) → k < l.slot-index → k < length l.slots → of_nogood.eq (get_or l.slots k d).nogood l.nogood ≡ false
