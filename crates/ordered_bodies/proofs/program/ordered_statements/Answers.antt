use Rattle.ordered_bodies.proofs.Programs.{begun, fits, stands, goes_on, all_done}
use Rattle.ordered_bodies.proofs.program.ordered_statements.Goals as goal

pub loop-statement-init : goal.loop-statement-init
loop-statement-init c = begun c.args.left c.args.orders.now c.new-done.result c.requires c.new-done.ensures

pub order_at-order-requires : goal.order_at-order-requires
order_at-order-requires c = stands c.args.left c.loop-statement.left c.pop.new.self c.args.orders.now c.loop-statement.done c.in-Some.statement c.len.result c.loop-statement.invariant c.in-Some.ensures c.len.ensures

pub ordered_statement-requires : goal.ordered_statement-requires
ordered_statement-requires c = fits c.args.left c.loop-statement.left c.pop.new.self c.args.orders.now c.loop-statement.done c.in-Some.statement c.len.result c.order_at-order.result.now c.loop-statement.invariant c.in-Some.ensures c.len.ensures c.order_at-order.ensures

pub loop-statement-preserved : goal.loop-statement-preserved
loop-statement-preserved c =
    goes_on c.args.left c.loop-statement.left c.pop.new.self c.args.orders.now c.loop-statement.done c.push.new.self c.in-Some.statement c.in_ok-statement.statement c.len.result c.order_at-order.result.now
    c.loop-statement.invariant c.in-Some.ensures c.len.ensures c.order_at-order.ensures c.in_ok-statement.ensures c.in_ok-push.ensures.ok

pub returns : goal.returns
returns c = all_done c.args.left c.loop-statement.left c.args.orders.now c.loop-statement.done c.reverse.new.self c.loop-statement.invariant c.in_default.ensures.0 c.reverse.ensures
