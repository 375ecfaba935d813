use Rattle.std.proofs.Common.{◌<◌, ◌≤◌, ◌+◌, get_or, List, length, drop, subst, ◌∙◌, ap}
use Rattle.ground_model.specs.declared.rule.GroundRule.{GroundRule}
use Rattle.linear_normal.proofs.NumberingLemmas.{sound_rules, rule_at, left_at, left_end, part_started, part_then, numbering_is}
use Rattle.linear_normal.proofs.numbering.normalise.Goals as goal

pub loop-rule-init : goal.loop-rule-init
loop-rule-init c =
    part_started (length c.args.ground.now.atoms) (length c.args.ground.now.variables) c.args.ground.now.rules c.new-keys.result.keys c.new-bodies.result c.new-supports.result c.new-duties.result
    c.new-keys.ensures.empty c.new-bodies.ensures c.new-supports.ensures c.new-duties.ensures

pub add_rule-requires : goal.add_rule-requires
add_rule-requires c =
    let program = c.args.ground.now in
    let i = c.loop-rule.rule-index in
    let same = c.items-rule-items.ensures in
    (rule_at (length program.variables) (length program.atoms) c.len-variables.result program.rules c.loop-rule.rule-index c.rule-item.result c.rule-item.result
    (sound_rules (length program.symbols) (length program.atoms) (length program.variables) program.ends program.rules program.sound_rules)
    (subst (λ (xs : List GroundRule). i < length xs) same c.loop-rule-test.true) (c.rule-item.is ∙ ap (λ (xs : List GroundRule). get_or xs i c.rule-item.result) same) c.len-variables.ensures).0

pub loop-rule-preserved : goal.loop-rule-preserved
loop-rule-preserved c =
    let program = c.args.ground.now in
    let i = c.loop-rule.rule-index in
    let same = c.items-rule-items.ensures in
    let has = (rule_at (length program.variables) (length program.atoms) c.len-variables.result program.rules c.loop-rule.rule-index c.rule-item.result c.rule-item.result
    (sound_rules (length program.symbols) (length program.atoms) (length program.variables) program.ends program.rules program.sound_rules)
    (subst (λ (xs : List GroundRule). i < length xs) same c.loop-rule-test.true) (c.rule-item.is ∙ ap (λ (xs : List GroundRule). get_or xs i c.rule-item.result) same) c.len-variables.ensures).1 in
    part_then (length program.atoms) (length program.variables) c.len-variables.result program.rules (drop c.loop-rule.rule-index program.rules) (drop (c.loop-rule.rule-index + 1) program.rules) c.rule-item.result
    _ _ _ _ _ _ _ _ c.len-variables.ensures
    (left_at program.rules c.loop-rule.rule-index c.rule-item.result c.rule-item.result
    (subst (λ (xs : List GroundRule). i < length xs) same c.loop-rule-test.true) (c.rule-item.is ∙ ap (λ (xs : List GroundRule). get_or xs i c.rule-item.result) same))
    c.loop-rule.invariant (c.in_ok-add_rule.ensures.gives (length program.atoms) has) c.in_ok-add_rule.ensures.supports

pub returns-clause-numbering : goal.returns-clause-numbering
returns-clause-numbering c =
    let program = c.args.ground.now in
    let i = c.loop-rule.rule-index in
    let same = c.items-rule-items.ensures in
    numbering_is program (drop c.loop-rule.rule-index program.rules) c.loop-rule.keys.keys c.in_ok-constraints.constraints c.loop-rule.bodies c.loop-rule.supports c.loop-rule.duties c.in_ok-objective.objective
    (left_end program.rules i (subst (λ (xs : List GroundRule). length xs ≤ i) same c.loop-rule-test.false)) c.loop-rule.invariant c.in_ok-constraints.ensures c.in_ok-objective.ensures
