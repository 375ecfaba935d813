use Rattle.std.proofs.Common.{◌≡◌, ◌≤◌, ◌-◌, length, take}
use Rattle.std.specs.Io.KnownBytes.{Appends}
use Rattle.outside_io.proofs.writing.write_all.Given as goal

-- a front of the piece was written, and nothing has failed
abbrev pub invariant-loop-at : goal.invariant-loop-at
invariant-loop-at g l =
    let tells = g.S.Sink.tells in
    record {
      front : Appends (tells l.fn.sink).written (tells l.sink).written (take l.at l.piece);
      within : l.at ≤ length l.piece;
      flushed : (tells l.sink).flushed ≡ (tells l.fn.sink).flushed;
      names : (tells l.sink).opened ≡ (tells l.fn.sink).opened;
      faults : (tells l.sink).faults ≡ (tells l.fn.sink).faults;
    }

abbrev pub decreases-loop-at : goal.decreases-loop-at
decreases-loop-at g l = length l.piece - l.at
