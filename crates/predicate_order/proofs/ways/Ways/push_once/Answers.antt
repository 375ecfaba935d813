use Rattle.std.proofs.Common.{refl}
use Rattle.predicate_order.proofs.Numbers.{adds_once}
use Rattle.predicate_order.proofs.ways.Ways.push_once.Goals as goal

pub returns-then-at_once : goal.returns-then-at_once
returns-then-at_once c =
    adds_once c.args.number c.args.at_once c.args.self.now (record { table = c.args.self.now.table; ways = c.push.new.self }) c.if-at_once.true refl
    c.in_ok-push.ensures.ok
