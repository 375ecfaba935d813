use Rattle.std.proofs.Common.{slice_index_or, length, sym, subst}
use Rattle.rewriting.specs.declared.sight.Sight.TheVariants as sight
use Rattle.rewriting.specs.inner.Flags.{IsBelow}
use Rattle.rewriting.proofs.Orders.{order_more, order_all, below_at, item_is}
use Rattle.rewriting.proofs.order.note_all.Goals as goal

pub note_seen-requires-clause-below : goal.note_seen-requires-clause-below
note_seen-requires-clause-below c =
    subst (λ size. IsBelow size (slice_index_or c.args.sights.now c.loop-sight.sight-index (sight.Variable 0))) (sym c.loop-sight.auto.flags)
    (below_at c.args.sights.now c.loop-sight.sight-index _ (length c.args.flags.now)
    (item_is c.args.sights.now c.loop-sight.sight-index (sight.Variable 0) c.loop-sight-test.true) c.loop-sight-test.true c.requires.below)

pub loop-sight-preserved : goal.loop-sight-preserved
loop-sight-preserved c = record {
  flags = c.in_ok-note_seen.ensures.flags;
  order = order_more c.args.sights.now c.loop-sight.sight-index (slice_index_or c.args.sights.now c.loop-sight.sight-index (sight.Variable 0)) c.loop-sight.order
      c.note_seen.new.order (item_is c.args.sights.now c.loop-sight.sight-index (sight.Variable 0) c.loop-sight-test.true) c.loop-sight-test.true
      c.loop-sight.invariant.order c.in_ok-note_seen.ensures.order;
}

pub returns : goal.returns
returns c = order_all c.args.sights.now c.loop-sight.sight-index c.loop-sight.order c.loop-sight-test.false c.loop-sight.invariant.order
