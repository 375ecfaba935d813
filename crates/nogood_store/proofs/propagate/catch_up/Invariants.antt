use Rattle.std.proofs.Common.{◌-◌, ◌^◌, length}
use Rattle.trail.specs.Growth.{Grows}
use Rattle.nogood_store.specs.Propagation.{IsForced}
use Rattle.nogood_store.specs.Kept.{held_of}
use Rattle.nogood_store.specs.inner.Watching.{IsWorking, AreDone}
use Rattle.nogood_store.proofs.propagate.catch_up.Given as goal

abbrev pub invariant-ahead : goal.invariant-ahead
invariant-ahead l = record {
  working : IsWorking l.slots l.work l.trail;
  grows : Grows (IsForced (held_of l.slots)) l.fn.trail l.trail;
  done : AreDone l.slots l.work.fresh.items l.trail 0;
}

abbrev pub decreases-ahead : goal.decreases-ahead
decreases-ahead l = 2 ^ 64 - length l.work.looked.items
