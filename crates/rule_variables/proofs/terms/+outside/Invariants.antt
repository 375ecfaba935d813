use Rattle.std.proofs.Common.{◌≡◌, map, false, take}
use Rattle.program_meaning.specs.Variables as spec
use Rattle.rule_variables.proofs.terms.+outside.Given as goal

abbrev pub invariant-occurs_outside_in_arguments-loop-arg : goal.invariant-occurs_outside_in_arguments-loop-arg
invariant-occurs_outside_in_arguments-loop-arg l = spec.any_true (map (spec.occurs_outside l.number) (take l.arg-index l.args)) ≡ false
