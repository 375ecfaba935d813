use Rattle.std.proofs.Common.{◌-◌, ◌^◌, length}
use Rattle.search_core.specs.inner.Rooms.{IsRoom, IsRested, Keeps}
use Rattle.search_core.proofs.descend.descend.Given as goal

abbrev pub invariant-descend : goal.invariant-descend
invariant-descend g l =
    let P = g.P.Propagator in
    record {
      room : IsRoom P.meaning P.stands P.looked l.room;
      rested : IsRested P.meaning l.room;
      keeps : Keeps l.fn.room l.room;
    }

abbrev pub decreases-descend : goal.decreases-descend
decreases-descend g l = 2 ^ 64 - length l.room.trail.entries
