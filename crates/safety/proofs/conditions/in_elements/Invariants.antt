use Rattle.std.proofs.Common.{map, take}
use Rattle.std.specs.List.{flat_map}
use Rattle.variable_safety.specs.inner.Occurring.{element_read}
use Rattle.safety_meaning.specs.Failures.{atoms_of_element}
use Rattle.safety.specs.inner.Rules.{AddsAnswers}
use Rattle.safety.proofs.conditions.in_elements.Given as goal

abbrev pub invariant-loop-element : goal.invariant-loop-element
invariant-loop-element l = AddsAnswers l.ways.table.keys l.flags (flat_map atoms_of_element (map element_read (take l.element-index l.elements))) l.fn.found l.found
