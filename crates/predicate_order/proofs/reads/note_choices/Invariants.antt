use Rattle.std.proofs.Common.{◌≡◌, ◌++◌, map, take}
use Rattle.std.specs.List.{flat_map}
use Rattle.program_meaning.specs.Read.{choice_read}
use Rattle.predicate_order.specs.Ways.{chosen_in}
use Rattle.predicate_order.proofs.reads.note_choices.Given as goal

abbrev pub invariant-loop-element : goal.invariant-loop-element
invariant-loop-element l = l.found ≡ l.fn.found ++ flat_map chosen_in (map choice_read (take l.element-index l.elements))
