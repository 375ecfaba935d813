use Rattle.predicate_order.specs.Ways.{IsReached}
use Rattle.predicate_order.proofs.Turns.{none_more, found_one, not_told}
use Rattle.predicate_order.proofs.reached.any_reached.Goals as goal

pub returns-then-is_reached : goal.returns-then-is_reached
returns-then-is_reached c = λ ways j.
    found_one (IsReached ways) c.args.predicates.now c.loop-predicate.predicate-index c.predicate-item.result c.predicate-item.is
    c.loop-predicate-test.true ((c.is_reached.ensures ways j).0 c.if-is_reached.true)

pub loop-predicate-preserved : goal.loop-predicate-preserved
loop-predicate-preserved c = λ ways j.
    none_more (IsReached ways) c.args.predicates.now c.loop-predicate.predicate-index c.predicate-item.result c.predicate-item.is
    c.loop-predicate-test.true (c.loop-predicate.invariant ways j)
    (not_told c.is_reached.result (IsReached ways c.predicate-item.result) (c.is_reached.ensures ways j) c.if-is_reached.false)
