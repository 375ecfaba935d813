use Rattle.std.proofs.Common.{◌≤◌, length}
use Rattle.trail.specs.Growth.{Grows}
use Rattle.nogood_store.specs.Propagation.{IsForced}
use Rattle.nogood_store.specs.Kept.{held_of}
use Rattle.nogood_store.specs.inner.Watching.{IsWorking, AreDone}
use Rattle.nogood_store.proofs.fresh.take_all.Given as goal

abbrev pub invariant-each : goal.invariant-each
invariant-each l = record {
  working : IsWorking l.slots l.work l.trail;
  grows : Grows (IsForced (held_of l.slots)) l.fn.trail l.trail;
  left : l.index ≤ length l.work.fresh.items;
  done : AreDone l.slots l.work.fresh.items l.trail l.index;
}

abbrev pub decreases-each : goal.decreases-each
decreases-each l = l.index
