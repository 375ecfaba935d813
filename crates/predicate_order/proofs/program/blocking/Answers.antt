use Rattle.predicate_order.specs.Ways.{blocking_reads}
use Rattle.predicate_order.proofs.Programs.{ways_more}
use Rattle.predicate_order.proofs.program.blocking.Goals as goal

pub loop-statement-preserved : goal.loop-statement-preserved
loop-statement-preserved c =
    ways_more blocking_reads c.args.statements.now c.loop-statement.statement-index c.statement-item.result c.loop-statement.ways c.add_blocking.new.ways
    c.statement-item.is c.loop-statement-test.true c.in_ok-add_blocking.ensures c.loop-statement.invariant
