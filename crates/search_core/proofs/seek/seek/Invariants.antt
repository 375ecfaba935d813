use Rattle.std.proofs.Common.{◌≡◌, ◌<◌, ◌≤◌, ◌-◌, false}
use Rattle.search_core.specs.inner.Lines.{IsLed}
use Rattle.search_core.specs.inner.Rooms.{GoesOn, state_in}
use Rattle.search_core.proofs.seek.seek.Given as goal

abbrev pub invariant-seek : goal.invariant-seek
invariant-seek g l =
    let P = g.P.Propagator in
    record {
      program : l.room.ground ≡ l.fn.room.ground;
      goes_on : GoesOn P.meaning P.stands P.looked l.room;
      led : IsLed l.fn.room.ground (state_in l.fn.room) (state_in l.room) l.fn.conflicts l.conflicts;
      within : l.conflicts ≤ l.limit;
      below : l.room.closed ≡ false → l.conflicts < l.limit;
    }

abbrev pub decreases-seek : goal.decreases-seek
decreases-seek g l = l.limit - l.conflicts
