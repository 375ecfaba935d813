use Rattle.std.proofs.Common.{◌<◌, ◌^◌, unsigned_abs, ◌∙◌, ap, map, subst, sym}
use Rattle.linear_normal.specs.inner.Tables.{value_item}
use Rattle.linear_normal.proofs.RelationLemmas.{items_small, constant_small, relation_given}
use Rattle.linear_normal.proofs.WrapLemmas.{same_number}
use Rattle.linear_normal.proofs.relation.add_relation.Goals as goal

pub add_compared-requires-clause-items : goal.add_compared-requires-clause-items
add_compared-requires-clause-items c =
    items_small c.args.variables c.args.relation.now c.in_ok-items.items c.in_ok-sum.sum.pairs c.requires c.in_ok-sum.ensures.pairs (c.in_ok-items.ensures ∙ ap (map value_item) c.items.ensures)

pub add_compared-requires-clause-number : goal.add_compared-requires-clause-number
add_compared-requires-clause-number c =
    let small = constant_small c.args.variables c.args.relation.now c.in_ok-sum.sum.constant c.requires c.in_ok-sum.ensures.constant in
    subst (λ z. unsigned_abs z < 2 ^ 62) (sym (same_number c.in_ok-sum.sum.constant small)) small

pub returns-clause-gives : goal.returns-clause-gives
returns-clause-gives c =
    relation_given c.args.keys.now.keys _ c.args.variables c.args.relation.now c.in_ok-items.items c.in_ok-sum.sum.pairs c.in_ok-sum.sum.constant _ c.in_ok-number.number
    c.in_ok-sum.ensures.pairs c.in_ok-sum.ensures.constant (c.in_ok-items.ensures ∙ ap (map value_item) c.items.ensures)
    (same_number c.in_ok-sum.sum.constant (constant_small c.args.variables c.args.relation.now c.in_ok-sum.sum.constant c.requires c.in_ok-sum.ensures.constant)) c.in_ok-number.ensures.takes
