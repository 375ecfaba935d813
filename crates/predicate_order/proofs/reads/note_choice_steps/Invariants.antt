use Rattle.std.proofs.Common.{◌≡◌, ◌++◌, map, take}
use Rattle.std.specs.List.{flat_map}
use Rattle.program_meaning.specs.Read.{choice_read, literal_read, plains}
use Rattle.predicate_order.specs.Ways.{steps_in}
use Rattle.predicate_order.proofs.reads.note_choice_steps.Given as goal

abbrev pub invariant-loop-element : goal.invariant-loop-element
invariant-loop-element l = l.found ≡ l.fn.found ++ flat_map (steps_in (plains (map literal_read l.body))) (map choice_read (take l.element-index l.elements))
