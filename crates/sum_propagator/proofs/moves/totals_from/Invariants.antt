use Rattle.sum_propagator.specs.Moves.{front, AreTotals}
use Rattle.sum_propagator.proofs.moves.totals_from.Given as goal

abbrev pub invariant-loop-place : goal.invariant-loop-place
invariant-loop-place l = AreTotals (front l.trail l.place) l.sum.items l.totals
