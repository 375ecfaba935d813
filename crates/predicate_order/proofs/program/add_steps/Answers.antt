use Rattle.predicate_order.specs.Ways.{step_reads}
use Rattle.predicate_order.proofs.Programs.{rule_added}
use Rattle.predicate_order.proofs.program.add_steps.Goals as goal

pub returns-in_ok-add_all-in-Rule : goal.returns-in_ok-add_all-in-Rule
returns-in_ok-add_all-in-Rule c =
    rule_added step_reads c.args.statement.now c.in-Rule.rule c.in_ok-all-in-Rule.all c.args.ways.now c.add_all.new.ways c.in-Rule.is c.in_ok-all-in-Rule.ensures
    c.in_ok-add_all-in-Rule.ensures
