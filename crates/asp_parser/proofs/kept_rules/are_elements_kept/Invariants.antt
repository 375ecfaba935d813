use Rattle.std.proofs.Common.{◌≡◌, map, take}
use Rattle.asp_parser.specs.Replacement as spec
use Rattle.asp_parser.proofs.kept_rules.are_elements_kept.Given as goal

abbrev pub invariant-loop-element : goal.invariant-loop-element
invariant-loop-element l = map (spec.replaced_choice_element l.constants) (take l.element-index l.elements) ≡ take l.element-index l.elements
