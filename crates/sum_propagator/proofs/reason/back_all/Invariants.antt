use Rattle.sum_propagator.specs.Reasons.{Backs}
use Rattle.sum_propagator.proofs.reason.back_all.Given as goal

abbrev pub invariant-loop-at : goal.invariant-loop-at
invariant-loop-at l = Backs l.trail l.side l.items l.but l.instead l.slack l.left l.at l.fn.lits.items l.lits.items
