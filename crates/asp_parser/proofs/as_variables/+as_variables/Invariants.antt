use Rattle.std.proofs.Common.{◌≡◌, map, take}
use Rattle.asp_parser.specs.ConstantTable as spec
use Rattle.asp_parser.proofs.as_variables.+as_variables.Given as goal

abbrev pub invariant-arguments-loop-arg : goal.invariant-arguments-loop-arg
invariant-arguments-loop-arg l = l.done ≡ map (spec.as_variables l.constants) (take l.arg-index l.args)

abbrev pub invariant-in_parts-loop-part : goal.invariant-in_parts-loop-part
invariant-in_parts-loop-part l = l.done ≡ map (spec.part_as_variables l.constants) (take l.part-index l.parts)
