use Rattle.std.proofs.Common.{◌≡◌, ◌++◌, map, take}
use Rattle.program_meaning.specs.Read.{literal_read, plains}
use Rattle.predicate_order.specs.Ways.{positives}
use Rattle.predicate_order.proofs.reads.note_positives.Given as goal

abbrev pub invariant-loop-literal : goal.invariant-loop-literal
invariant-loop-literal l = l.found ≡ l.fn.found ++ positives (plains (map literal_read (take l.literal-index l.literals)))
