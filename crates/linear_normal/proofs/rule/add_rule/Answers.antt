use Rattle.std.proofs.Common.{◌+◌, ◌∷◌, [], length, length-append, ap, ◌∙◌, sym}
use Rattle.linear_normal.proofs.RuleLemmas.{rule_given}
use Rattle.linear_normal.proofs.rule.add_rule.Goals as goal

pub returns-clause-gives : goal.returns-clause-gives
returns-clause-gives c = λ atoms has.
    let counted = ap length c.in_ok-push.ensures.ok ∙ length-append c.args.bodies.now (c.in_ok-next.next ∷ []) ∙ ap (λ n. n + 1) (sym c.len.ensures) ∙ sym c.in_ok-first.ensures.number in
    rule_given _ _ _ atoms c.args.variables c.in_ok-first.first c.len.result c.args.rule.now c.items.result.now c.in_ok-own.own.items c.deref.result.now c.deref-2.result.now c.in_ok-next.next
    c.args.bodies.now c.push.new.self _ c.args.duties.now _ c.items.ensures c.deref.ensures.value c.deref-2.ensures.value c.in_ok-first.ensures.number c.len.ensures c.in_ok-push.ensures.ok
    c.in_ok-own.ensures.gives c.in_ok-next.ensures (c.in_ok-add_head.ensures atoms c.args.rule.now.body counted has)
