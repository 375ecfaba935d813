use Rattle.std.proofs.Common.{◌∙◌, ap, ◌++◌, ◌+◌, length, drop, get_or, flat_map, subst}
use Rattle.ground_model.proofs.Products.{drop_next}
use Rattle.ground_model.specs.declared.rule.GroundRule.{GroundRule}
use Rattle.linear_normal.specs.Bodies.{bodies_in, placed}
use Rattle.linear_normal.specs.Numbering.{contents_in}
use Rattle.completion.specs.Inputs.{rule_nogoods}
use Rattle.completion.specs.inner.Parts.{duty_count_of}
use Rattle.completion.proofs.RuleLemmas.{IsLeft, left_first, left_step}
use Rattle.completion.proofs.rule.add_rules.Goals as goal

pub loop-rule-init : goal.loop-rule-init
loop-rule-init c =
    rw (c.items-bodies.ensures, c.items-duties.ensures, c.items-rule-items.ensures) (left_first c.args.ground.now c.args.numbered.now c.requires.numbered c.requires.fits c.args.nogoods.now)

pub loop-rule-preserved : goal.loop-rule-preserved
loop-rule-preserved c =
    let d : GroundRule = c.rule-item.result in
    let rule : GroundRule = get_or c.items-rule-items.result.now c.loop-rule.rule-index d in
    let whole = c.args.nogoods.now ++ flat_map (rule_nogoods (contents_in c.args.ground.now) (length c.args.ground.now.atoms) (length c.args.ground.now.variables)) (placed 1 c.args.ground.now.rules) in
    let left = subst (IsLeft c.args.ground.now c.loop-rule.bodies.now c.loop-rule.duties.now c.loop-rule.first c.loop-rule.nogoods whole) (drop_next c.items-rule-items.result.now c.loop-rule.rule-index d c.loop-rule-test.true) c.loop-rule.invariant in
    left_step c.args.ground.now rule (drop (c.loop-rule.rule-index + 1) c.items-rule-items.result.now) c.loop-rule.bodies.now c.split_at.result.0.now c.split_at.result.1.now
    c.loop-rule.duties.now c.split_at-in-loop-rule.result.0.now c.split_at-in-loop-rule.result.1.now c.loop-rule.first c.body_count.result c.duty_count.result
    c.loop-rule.nogoods c.add_bodies.new.nogoods c.add_duties.new.nogoods whole left
    (c.body_count.ensures ∙ ap (λ (r : GroundRule). length (bodies_in r)) c.rule-item.is) (c.duty_count.ensures ∙ ap (λ (r : GroundRule). duty_count_of r.head) c.rule-item.is)
    c.split_at.ensures.front c.split_at.ensures.back c.split_at-in-loop-rule.ensures.front c.split_at-in-loop-rule.ensures.back
    c.in_ok-add_bodies.ensures c.in_ok-add_duties.ensures
