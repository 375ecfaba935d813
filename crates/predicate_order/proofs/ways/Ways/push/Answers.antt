use Rattle.std.proofs.Common.{refl}
use Rattle.predicate_order.proofs.Numbers.{reads_added}
use Rattle.predicate_order.proofs.ways.Ways.push.Goals as goal

pub returns : goal.returns
returns c =
    reads_added c.args.reads.head c.args.reads.at_once c.args.reads.others c.in_ok-number.number c.args.self.now
    (record { table = c.number.new.table; ways = c.args.self.now.ways }) c.push_once.new.self c.push_others.new.self c.in_ok-number.ensures.kept refl
    c.in_ok-number.ensures.number c.in_ok-push_once.ensures c.in_ok-push_others.ensures
