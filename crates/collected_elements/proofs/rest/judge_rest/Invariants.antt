use Rattle.std.proofs.Common.{take, length}
use Rattle.symbols.specs.Table.{IsFront}
use Rattle.syntax_tree.specs.Outcome.{bound_in}
use Rattle.collected_elements.specs.inner.Places.{IsRestOf, IsKnownRest}
use Rattle.collected_elements.proofs.rest.judge_rest.Given as goal

abbrev pub invariant-loop-place : goal.invariant-loop-place
invariant-loop-place l = record {
  rest : IsRestOf l.symbols (bound_in l.fn.symbols l.binding.values) (take l.place l.rest) l.found;
  known : IsKnownRest (length l.symbols) l.found;
  kept : IsFront l.fn.symbols l.symbols;
}
