use Rattle.std.proofs.Common.{◌≡◌, ◌≤◌, IsTrue}
use Rattle.propagator_core.specs.Standing.{StandsFor}
use Rattle.sum_trial.specs.Trials.{AreRaised, GrowsRaised}
use Rattle.sum_trial.proofs.wide.raise.Given as goal

abbrev pub invariant-loop-before : goal.invariant-loop-before
invariant-loop-before g l =
    let P = g.P.Propagator in
    record {
      fits : IsTrue ((P.meaning l.sum).fits l.trail.shape);
      stands : StandsFor (P.stands l.sum) (P.looked l.sum) l.trail;
      named : 1 ≤ l.trail.shape.variables;
      meaning : P.meaning l.sum ≡ P.meaning l.fn.sum;
      grows : GrowsRaised l.fn.times (P.meaning l.fn.sum).valid l.fn.trail l.trail;
      raised : AreRaised l.before l.trail;
    }
