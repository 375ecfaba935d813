use Rattle.std.proofs.Common.{◌≡◌}
use Rattle.trail.specs.Assignment.{lits_of}
use Rattle.sum_trial.specs.Trials.{first_true}
use Rattle.sum_trial.proofs.starting.start.Given as goal

abbrev pub invariant-loop-number : goal.invariant-loop-number
invariant-loop-number l = record {
  constraints : l.trail.shape.constraints ≡ l.fn.constraints;
  variables : l.trail.shape.variables ≡ l.fn.variables;
  entries : lits_of l.trail.entries ≡ first_true l.number;
}
