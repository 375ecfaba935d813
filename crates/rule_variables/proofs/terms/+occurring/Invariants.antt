use Rattle.std.proofs.Common.{◌≡◌, map, false, take}
use Rattle.program_meaning.specs.Variables as spec
use Rattle.rule_variables.specs.inner.Occurring.{occurs_in_part}
use Rattle.rule_variables.proofs.terms.+occurring.Given as goal

abbrev pub invariant-occurs_in_arguments-loop-arg : goal.invariant-occurs_in_arguments-loop-arg
invariant-occurs_in_arguments-loop-arg l = spec.any_true (map (spec.occurs l.number) (take l.arg-index l.args)) ≡ false

abbrev pub invariant-occurs_in_parts-loop-part : goal.invariant-occurs_in_parts-loop-part
invariant-occurs_in_parts-loop-part l = spec.any_true (map (occurs_in_part l.number) (take l.part-index l.parts)) ≡ false
