use Rattle.std.proofs.Common.{◌≡◌, take}
use Rattle.symbols.specs.Table.{IsFront}
use Rattle.syntax_tree.specs.Outcome.{bound_in}
use Rattle.collected_elements.specs.inner.Places.{has_bad}
use Rattle.collected_elements.proofs.sides.has_bad_part.Given as goal

abbrev pub invariant-loop-part : goal.invariant-loop-part
invariant-loop-part l = record {
  bad : l.bad ≡ has_bad (bound_in l.fn.symbols l.binding.values) (take l.part-index l.parts);
  kept : IsFront l.fn.symbols l.symbols;
}
