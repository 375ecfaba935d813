use Rattle.predicate_order.proofs.Numbers.{adds_from}
use Rattle.predicate_order.proofs.ways.Ways.push_from.Goals as goal

pub returns : goal.returns
returns c =
    adds_from c.args.head c.in_ok-from.from c.args.other c.args.self.now (record { table = c.number.new.table; ways = c.push.new.self })
    c.in_ok-from.ensures.kept c.in_ok-from.ensures.number c.in_ok-push.ensures.ok
