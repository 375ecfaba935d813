use Rattle.std.proofs.Common.{rules}
use Rattle.sum_propagator.proofs.Moving.{totals_all}
use Rattle.sum_propagator.proofs.moves.totals_from.Goals as goal

pub returns : goal.returns
returns c = totals_all c.args.trail.now c.loop-place.place c.args.sum.now.items c.loop-place.totals (search rules) c.loop-place.invariant
