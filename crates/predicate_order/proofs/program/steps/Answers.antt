use Rattle.predicate_order.specs.Ways.{step_reads}
use Rattle.predicate_order.proofs.Programs.{ways_more}
use Rattle.predicate_order.proofs.program.steps.Goals as goal

pub loop-statement-preserved : goal.loop-statement-preserved
loop-statement-preserved c =
    ways_more step_reads c.args.statements.now c.loop-statement.statement-index c.statement-item.result c.loop-statement.ways c.add_steps.new.ways
    c.statement-item.is c.loop-statement-test.true c.in_ok-add_steps.ensures c.loop-statement.invariant
