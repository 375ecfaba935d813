use Rattle.std.proofs.Common.{◌≡◌, map, take}
use Rattle.asp_parser.specs.Replacement as spec
use Rattle.asp_parser.proofs.in_literals.+in_literals.Given as goal

abbrev pub invariant-replaced_elements-loop-element : goal.invariant-replaced_elements-loop-element
invariant-replaced_elements-loop-element l = l.done ≡ map (spec.replaced_element l.constants) (take l.element-index l.elements)

abbrev pub invariant-replaced_condition-loop-literal : goal.invariant-replaced_condition-loop-literal
invariant-replaced_condition-loop-literal l = l.done ≡ map (spec.replaced_literal l.constants) (take l.literal-index l.literals)
