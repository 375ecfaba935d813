use Rattle.std.proofs.Common.{◌∙◌}
use Rattle.ordered_bodies.proofs.Wholes.{body_fits, told_fits, head_fits, rule_law}
use Rattle.ordered_bodies.proofs.rules.ordered_rule.Goals as goal

pub ordered_body-requires-clause-plain : goal.ordered_body-requires-clause-plain
ordered_body-requires-clause-plain c = body_fits c.args.rule c.args.order.now c.requires

pub ordered_body-requires-clause-told : goal.ordered_body-requires-clause-told
ordered_body-requires-clause-told c = told_fits c.args.rule c.args.order.now c.items.result.now c.requires (c.items.ensures ∙ c.in_ok-given.ensures)

pub ordered_head-requires : goal.ordered_head-requires
ordered_head-requires c = head_fits c.args.rule c.args.order.now c.items-2.result.now c.requires (c.items-2.ensures ∙ c.in_ok-given.ensures)

pub returns : goal.returns
returns c =
    rule_law c.args.rule
    (record { head = c.in_ok-head.head; body = c.in_ok-body.body; arrow = c.args.rule.arrow; names = c.args.rule.names; places = c.args.rule.places })
    c.args.order.now c.items.result.now c.items-2.result.now (c.items.ensures ∙ c.in_ok-given.ensures) (c.items-2.ensures ∙ c.in_ok-given.ensures) c.in_ok-body.ensures c.in_ok-head.ensures
