use Rattle.std.proofs.Common.{ℕ, List, ◌+◌, length, ap₂, ◌∙◌}
use Rattle.ground_model.specs.declared.rule.ChoiceItem.{ChoiceItem}
use Rattle.linear_normal.proofs.RuleLemmas.{choice_bounded, choice_unbounded}
use Rattle.linear_normal.proofs.rule.add_choice.Goals as goal

pub returns-in_ok-add_bounded : goal.returns-in_ok-add_bounded
returns-in_ok-add_bounded c = λ atoms variables body counted has.
    choice_bounded _ _ atoms variables c.args.first c.args.own.now body c.items.result.now c.args.choice.now c.is_bounded.result c.args.bodies.now c.add_element_bodies.new.bodies _ c.args.duties.now _
    c.is_bounded.ensures c.if-is_bounded.true c.items.ensures c.in_ok-add_element_bodies.ensures.bodies
    (c.in_ok-add_bounded.ensures atoms variables body (c.in_ok-add_element_bodies.ensures.length ∙ ap₂ (λ (n : ℕ) (xs : List ChoiceItem). n + length xs) counted c.items.ensures) has)

pub returns-else-is_bounded : goal.returns-else-is_bounded
returns-else-is_bounded c = λ atoms variables body counted has.
    choice_unbounded _ atoms variables c.args.first c.args.own.now body c.items.result.now c.args.choice.now c.is_bounded.result c.args.bodies.now c.add_element_bodies.new.bodies c.args.duties.now
    c.is_bounded.ensures c.if-is_bounded.false c.items.ensures c.in_ok-add_element_bodies.ensures.bodies
