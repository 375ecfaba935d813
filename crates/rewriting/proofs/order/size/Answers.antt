use Rattle.std.proofs.Common.{slice_index_or}
use Rattle.rewriting.specs.declared.sight.Sight.TheVariants as sight
use Rattle.rewriting.proofs.Orders.{sizes_more, item_is}
use Rattle.rewriting.proofs.order.size.Goals as goal

pub loop-sight-preserved : goal.loop-sight-preserved
loop-sight-preserved c =
    sizes_more c.args.sights.now c.loop-sight.sight-index (slice_index_or c.args.sights.now c.loop-sight.sight-index (sight.Variable 0)) c.loop-sight.size
    c.above-size.result (item_is c.args.sights.now c.loop-sight.sight-index (sight.Variable 0) c.loop-sight-test.true) c.loop-sight-test.true
    c.above-size.ensures.size c.loop-sight.invariant c.above-size.ensures.number
