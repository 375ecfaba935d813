use Rattle.program_meaning.specs.Read.{rule_read}
use Rattle.planned_texts.proofs.PlanningLemmas.{ready_push}
use Rattle.planned_texts.proofs.planning.add_rule.Goals as goal

pub returns-clause-ready : goal.returns-clause-ready
returns-clause-ready c =
    ready_push c.args.rules.now c.push.new.self c.args.plans.now c.push-2.new.self c.in_ok-planned.planned c.in_ok-of_theories.of_theories
    (rule_read c.args.rule.now c.args.order.now) c.in_ok-push.ensures.ok c.in_ok-push-2.ensures.ok c.in_ok-planned.ensures.rule
    c.requires.groundable c.in_ok-planned.ensures.planned c.in_ok-of_theories.ensures
