use Rattle.safety.proofs.Verdicts.{conditions_pass}
use Rattle.safety.proofs.judging.judge_conditions.Goals as goal

pub returns-in-None-clause-verdict : goal.returns-in-None-clause-verdict
returns-in-None-clause-verdict c =
    conditions_pass c.judge_recursion.result c.args.ways.now.table.keys c.args.flags.now c.args.steps.now c.args.rule.now c.args.order.now
    c.in_ok-place.field-0 c.in-None.is c.in_ok-place.ensures c.judge_recursion.ensures.verdict
