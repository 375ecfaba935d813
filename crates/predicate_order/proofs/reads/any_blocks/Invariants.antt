use Rattle.std.proofs.Common.{◌≡◌, false, map, take}
use Rattle.std.specs.List.{list_any}
use Rattle.program_meaning.specs.Read.{literal_read}
use Rattle.predicate_order.specs.Ways.{blocks}
use Rattle.predicate_order.proofs.reads.any_blocks.Given as goal

abbrev pub invariant-loop-literal : goal.invariant-loop-literal
invariant-loop-literal l = list_any blocks (map literal_read (take l.literal-index l.body)) ≡ false
