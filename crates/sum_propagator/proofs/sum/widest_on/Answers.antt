use Rattle.std.proofs.Common.{rules}
use Rattle.trail_bounds.specs.OnTrail.{bounds_on}
use Rattle.trail_bounds.proofs.ItemSums.{at_place}
use Rattle.sum_propagator.proofs.Widths.{within_next}
use Rattle.sum_propagator.proofs.sum.widest_on.Goals as goal

pub loop-item-preserved : goal.loop-item-preserved
loop-item-preserved c =
    within_next (bounds_on c.args.trail.now) c.args.items.now c.loop-item.widest c.wider-widest.result c.loop-item.item-index _ c.wider-widest.ensures.more c.wider-widest.ensures.within
    (λ d. at_place c.args.items.now c.loop-item.item-index d _ (search rules)) c.loop-item.invariant
