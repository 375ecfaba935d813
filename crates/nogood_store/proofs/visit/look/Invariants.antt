use Rattle.std.proofs.Common.{◌≡◌, ◌<◌, ◌≤◌, true, length}
use Rattle.literals.specs.Places.{place_of}
use Rattle.trail.specs.Assignment.{is_true_on}
use Rattle.trail.specs.Growth.{Grows}
use Rattle.nogood_store.specs.Propagation.{IsForced}
use Rattle.nogood_store.specs.Kept.{held_of}
use Rattle.nogood_store.specs.inner.Watching.{IsWorking, IsKept, IsDone, list_at}
use Rattle.nogood_store.proofs.visit.look.Given as goal

abbrev pub invariant-back : goal.invariant-back
invariant-back l = record {
  working : IsWorking l.slots l.work l.trail;
  grows : Grows (IsForced (held_of l.slots)) l.fn.trail l.trail;
  kept : IsKept l.fn.work l.work;
  lit : is_true_on l.trail l.lit ≡ true;
  place : l.place ≡ place_of l.work.places l.lit;
  within : l.place < length l.work.lists.items;
  left : l.index ≤ length (list_at l.work.lists.items l.place);
  done : IsDone l.slots l.work.lists.items l.trail l.place l.lit l.index;
}

abbrev pub decreases-back : goal.decreases-back
decreases-back l = l.index
