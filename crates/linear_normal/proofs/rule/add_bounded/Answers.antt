use Rattle.std.proofs.Common.{List, map, vec_items, subst, sym, ◌∙◌, ap, refl}
use Rattle.ground_model.specs.declared.rule.ChoiceItem.{ChoiceItem}
use Rattle.linear_normal.specs.Bodies.{selections}
use Rattle.linear_normal.specs.Demands.{bounds_of}
use Rattle.linear_normal.specs.inner.Tables.{HasAtoms}
use Rattle.linear_normal.proofs.RuleLemmas.{rows_are, bounded_given}
use Rattle.linear_normal.proofs.rule.add_bounded.Goals as goal

pub returns : goal.returns
returns c = λ atoms variables body counted has.
    let items = c.args.choice.now.items in
    let lent_has = subst (λ (xs : List ChoiceItem). HasAtoms atoms xs) (sym c.items-items.ensures) has in
    let rows = ap (map vec_items) c.deref.ensures.value ∙ rows_are _ c.args.first _ c.len-before.result atoms c.items-items.result.now items (c.in_ok-rows.ensures atoms lent_has) c.items-items.ensures refl (c.len-before.ensures ∙ counted) in
    bounded_given _ _ variables c.args.first c.args.own.now body c.items-items.result.now items (bounds_of c.args.choice.now) _ (selections atoms c.args.first items)
    c.args.bodies.now c.add_selecting_bodies.new.bodies c.args.duties.now c.add_bounds.new.duties rows c.items-items.ensures c.in_ok-add_bounds.ensures c.in_ok-add_selecting_bodies.ensures.bodies
