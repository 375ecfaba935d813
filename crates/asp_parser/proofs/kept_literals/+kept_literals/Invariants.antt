use Rattle.std.proofs.Common.{◌≡◌, map, take}
use Rattle.asp_parser.specs.Replacement as spec
use Rattle.asp_parser.proofs.kept_literals.+kept_literals.Given as goal

abbrev pub invariant-are_elements_kept-loop-element : goal.invariant-are_elements_kept-loop-element
invariant-are_elements_kept-loop-element l = map (spec.replaced_element l.constants) (take l.element-index l.elements) ≡ take l.element-index l.elements

abbrev pub invariant-are_literals_kept-loop-literal : goal.invariant-are_literals_kept-loop-literal
invariant-are_literals_kept-loop-literal l = map (spec.replaced_literal l.constants) (take l.literal-index l.literals) ≡ take l.literal-index l.literals
