use Rattle.std.proofs.Common.{◌≡◌, map}
use Rattle.propagation.specs.inner.Going.{AreUndone}
use Rattle.propagation.proofs.steps.undo_all.Given as goal

abbrev pub invariant-loop-at : goal.invariant-loop-at
invariant-loop-at g l =
    let P = g.P.Propagator in
    record {
      meanings : map P.meaning l.propagators ≡ map P.meaning l.fn.propagators;
      stand : AreUndone P.stands P.looked l.at l.fn.propagators l.propagators l.trail;
    }
