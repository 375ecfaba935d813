use Rattle.std.proofs.Common.{◌<◌, ℕ, take}
use Rattle.trail.specs.declared.shape.Shape.{Shape}
use Rattle.propagation.specs.Waking.{HasRows}
use Rattle.propagation.specs.inner.Hearing.{AreKept, StandsIn}
use Rattle.propagation.proofs.wakes.note_all.Given as goal

abbrev pub invariant-loop-touch : goal.invariant-loop-touch
invariant-loop-touch g l = record {
  kept : AreKept l.fn.wakes l.wakes;
  there : StandsIn l.wakes l.place (take l.touch-index l.touch-items);
  rows : (s : Shape) (n : ℕ) → l.place < n → HasRows s n l.fn.wakes → HasRows s n l.wakes;
}
