use Rattle.std.proofs.Common.{◌≡◌, map, take}
use Rattle.asp_parser.specs.Replacement as spec
use Rattle.asp_parser.proofs.in_rules.replaced_elements.Given as goal

abbrev pub invariant-loop-element : goal.invariant-loop-element
invariant-loop-element l = l.done ≡ map (spec.replaced_choice_element l.constants) (take l.element-index l.elements)
