use Rattle.std.proofs.Common.{◌≡◌, ◌++◌, ◌∷◌, drop}
use Rattle.completion.specs.Inputs.{all_false}
use Rattle.completion.proofs.constraint.none_true.Given as goal

abbrev pub invariant-loop-body : goal.invariant-loop-body
invariant-loop-body l = l.lits.items ++ all_false (drop l.body-index l.bodies) ≡ l.fn.first ∷ all_false l.bodies
