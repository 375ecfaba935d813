use Rattle.std.proofs.Common.{◌≡◌, ◌++◌, map, drop}
use Rattle.proof_checker.proofs.answers.values_of.Given as goal

abbrev pub invariant-loop-value : goal.invariant-loop-value
invariant-loop-value l = l.all ++ map (λ value. value.1) (drop l.value-index l.values) ≡ map (λ value. value.1) l.values
