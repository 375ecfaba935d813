use Rattle.safety.proofs.Answering.{all_rule_answers}
use Rattle.safety.proofs.conditions.answers.Goals as goal

pub returns : goal.returns
returns c =
    all_rule_answers c.args.ways.now.table.keys c.args.flags.now c.args.rule.now c.items.result.now c.new-found.result c.in_head.new.found c.in_body.new.found
    c.new-found.ensures c.items.ensures c.in_ok-in_head.ensures c.in_ok-in_body.ensures
