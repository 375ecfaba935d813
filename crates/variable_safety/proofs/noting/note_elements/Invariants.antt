use Rattle.std.proofs.Common.{map, take}
use Rattle.variable_safety.specs.inner.Occurring.{element_read}
use Rattle.variable_safety.specs.inner.Noting.{Notes, LooseInElements}
use Rattle.variable_safety.proofs.noting.note_elements.Given as goal

abbrev pub invariant-loop-element : goal.invariant-loop-element
invariant-loop-element l = Notes (LooseInElements l.given.listed (map element_read (take l.element-index l.elements))) l.fn.found l.found
