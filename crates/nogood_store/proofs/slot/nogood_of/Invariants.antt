use Rattle.std.proofs.Common.{◌-◌, ◌<◌, ◌≤◌, length, get_or, ℕ}
use Rattle.nogood_store.specs.declared.slot.Slot.{Slot}
use Rattle.nogood_store.proofs.slot.nogood_of.Given as goal

abbrev pub invariant-loop-low : goal.invariant-loop-low
invariant-loop-low l = record {
  order : l.low ≤ l.high;
  within : l.high ≤ length l.slots;
  below : (k : ℕ) → (d : Slot) → k < l.low → (get_or l.slots k d).id < l.id;
  above : (k : ℕ) → (d : Slot) → l.high ≤ k → k < length l.slots → l.id ≤ (get_or l.slots k d).id;
}

abbrev pub decreases-loop-low : goal.decreases-loop-low
decreases-loop-low l = l.high - l.low
