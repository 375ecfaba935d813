use Rattle.predicate_order.proofs.Numbers.{adds_more}
use Rattle.predicate_order.proofs.ways.Ways.push_others.Goals as goal

pub loop-other-preserved : goal.loop-other-preserved
loop-other-preserved c =
    adds_more c.args.number c.loop-other.yielded c.in-Some.other c.args.self.now c.loop-other.self c.push_from.new.self c.loop-other.invariant
    c.in_ok-push_from.ensures
