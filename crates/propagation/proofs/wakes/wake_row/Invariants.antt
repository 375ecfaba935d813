use Rattle.std.proofs.Common.{◌≡◌, take}
use Rattle.propagation.specs.inner.Hearing.{IsKept}
use Rattle.propagation.proofs.wakes.wake_row.Given as goal

abbrev pub invariant-loop-place : goal.invariant-loop-place
invariant-loop-place l = record {
  count : l.awake.count ≡ l.fn.awake.count;
  kept : IsKept l.fn.awake.places l.awake.places;
  all : IsKept (take l.place-index l.row) l.awake.places;
}
