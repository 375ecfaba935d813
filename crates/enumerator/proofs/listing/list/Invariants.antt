use Rattle.std.proofs.Common.{◌≡◌, ◌≤◌, ◌-◌}
use Rattle.enumerator.specs.Endings.{asked}
use Rattle.enumerator.specs.inner.Listing.{GoesOn}
use Rattle.enumerator.proofs.listing.list.Given as goal

-- so many answers are printed, and nothing has failed
abbrev pub invariant-loop-answers : goal.invariant-loop-answers
invariant-loop-answers g l =
    let tells = g.O.Sink.tells in
    record {
      going : GoesOn (asked l.fn.search.program l.number l.limit) l.answers l.search (tells l.fn.out) (tells l.out);
      few : l.answers ≤ l.number;
      program : l.search.program ≡ l.fn.search.program;
      flushed : (tells l.out).flushed ≡ (tells l.fn.out).flushed;
      opened : (tells l.out).opened ≡ (tells l.fn.out).opened;
      faults : (tells l.out).faults ≡ (tells l.fn.out).faults;
    }

abbrev pub decreases-loop-answers : goal.decreases-loop-answers
decreases-loop-answers g l = l.number - l.answers
