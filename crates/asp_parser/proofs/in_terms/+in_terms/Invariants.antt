use Rattle.std.proofs.Common.{◌≡◌, map, take}
use Rattle.asp_parser.specs.Replacement as spec
use Rattle.asp_parser.proofs.in_terms.+in_terms.Given as goal

abbrev pub invariant-arguments-loop-arg : goal.invariant-arguments-loop-arg
invariant-arguments-loop-arg l = l.done ≡ map (spec.replaced l.constants) (take l.arg-index l.args)

abbrev pub invariant-replaced_parts-loop-part : goal.invariant-replaced_parts-loop-part
invariant-replaced_parts-loop-part l = l.done ≡ map (spec.replaced_part l.constants) (take l.part-index l.parts)
