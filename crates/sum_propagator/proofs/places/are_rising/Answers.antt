use Rattle.std.proofs.Common.{arith}
use Rattle.sum_propagator.proofs.Following.{rising_next}
use Rattle.sum_propagator.proofs.places.are_rising.Goals as goal

pub loop-at-preserved : goal.loop-at-preserved
loop-at-preserved c =
    rising_next c.args.items.now c.loop-at.at c.key_at-here.result c.key_at-before.result c.loop-at.auto.at c.key_at-here.ensures c.key_at-before.ensures
    (let n = c.if-here-before.false in grind arith) c.loop-at.invariant
