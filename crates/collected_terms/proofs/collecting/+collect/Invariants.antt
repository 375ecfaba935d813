use Rattle.std.proofs.Common.{map, fold, take, None}
use Rattle.symbols.specs.Table.{IsFront}
use Rattle.syntax_tree.specs.Outcome.{bound_in}
use Rattle.program_meaning.specs.Collected.{part_joined}
use Rattle.collected_terms.specs.inner.Merging.{part_collected, IsSoFar, IsKnownSoFar}
use Rattle.collected_terms.proofs.collecting.+collect.Given as goal

abbrev pub invariant-from_left-loop-part : goal.invariant-from_left-loop-part
invariant-from_left-loop-part l = record {
  total : IsSoFar l.symbols l.so_far (fold part_joined None (map (part_collected (bound_in l.fn.symbols l.binding.values)) (take l.part-index l.parts)));
  known : IsKnownSoFar l.symbols l.so_far;
  kept : IsFront l.fn.symbols l.symbols;
}
