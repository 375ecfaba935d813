use Rattle.std.proofs.Common.{IsTrue}
use Rattle.propagator_core.specs.Standing.{StandsFor}
use Rattle.search_tests.proofs.sums.walk.Given as goal

abbrev pub invariant-loop-word : goal.invariant-loop-word
invariant-loop-word g l =
    let P = g.P.Propagator in
    record {
      fits : IsTrue ((P.meaning l.sum).fits l.trail.shape);
      stands : StandsFor (P.stands l.sum) (P.looked l.sum) l.trail;
    }
