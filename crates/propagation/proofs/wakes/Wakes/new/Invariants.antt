use Rattle.std.proofs.Common.{length, map}
use Rattle.propagation.specs.Waking.{HasRows}
use Rattle.propagation.specs.inner.Hearing.{FirstAreWakes, FirstAreSteady}
use Rattle.propagation.proofs.wakes.Wakes.new.Given as goal

abbrev pub invariant-loop-place : goal.invariant-loop-place
invariant-loop-place g l =
    let ms = map g.P.Propagator.meaning l.propagators in
    record {
      rows : HasRows l.fn.shape (length l.propagators) l.wakes;
      wakes : FirstAreWakes l.place l.wakes ms;
      steady : FirstAreSteady l.place ms;
    }
