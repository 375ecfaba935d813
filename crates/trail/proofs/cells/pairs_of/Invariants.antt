use Rattle.std.proofs.Common.{◌≡◌}
use Rattle.trail.specs.inner.Cells.{end_pairs}
use Rattle.trail.proofs.cells.pairs_of.Given as goal

abbrev pub invariant-loop : goal.invariant-loop
invariant-loop l = l.pairs.items ≡ end_pairs l.counter l.min l.max
