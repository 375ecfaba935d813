use Rattle.std.proofs.Common.{◌≡◌, ◌≤◌, List}
use Rattle.propagator_core.specs.Meaning.{Meaning}
use Rattle.propagation.specs.Waking.{AreWakes}
use Rattle.propagation.specs.inner.Hearing.{IsKept, AreHeard}
use Rattle.propagation.proofs.wakes.wake_from.Given as goal

abbrev pub invariant-loop-at : goal.invariant-loop-at
invariant-loop-at l = record {
  count : l.awake.count ≡ l.fn.awake.count;
  kept : IsKept l.fn.awake.places l.awake.places;
  heard : (ms : List Meaning) → AreWakes l.wakes ms → AreHeard ms l.awake.places l.trail.entries l.from l.at;
  same : l.at ≤ l.from → l.awake ≡ l.fn.awake;
}
