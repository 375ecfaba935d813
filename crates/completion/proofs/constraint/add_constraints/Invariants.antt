use Rattle.std.proofs.Common.{◌≡◌, ◌++◌, ◌+◌, drop}
use Rattle.completion.specs.Inputs.{constraints_nogoods}
use Rattle.completion.proofs.constraint.add_constraints.Given as goal

abbrev pub invariant-loop-constraint : goal.invariant-loop-constraint
invariant-loop-constraint l = record {
  place : l.number ≡ 1 + l.constraint-index;
  so_far : l.nogoods ++ constraints_nogoods l.number (drop l.constraint-index l.constraints) ≡ l.fn.nogoods ++ constraints_nogoods 1 l.constraints;
}
