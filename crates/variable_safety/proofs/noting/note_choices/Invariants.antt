use Rattle.std.proofs.Common.{map, take}
use Rattle.program_meaning.specs.Read.{choice_read}
use Rattle.variable_safety.specs.inner.Noting.{Notes, LooseInChoices}
use Rattle.variable_safety.proofs.noting.note_choices.Given as goal

abbrev pub invariant-loop-element : goal.invariant-loop-element
invariant-loop-element l = Notes (LooseInChoices l.given.listed (map choice_read (take l.element-index l.elements))) l.fn.found l.found
