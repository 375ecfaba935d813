use Rattle.std.proofs.Common.{◌+◌, [], ◌∷◌, length, map, take, sym, subst}
use Rattle.std.specs.List.{AllByRecursion, AllZip}
use Rattle.symbols.proofs.TableLemmas.{IsFront-trans}
use Rattle.program_meaning.specs.Said.{value_in}
use Rattle.instance_search.specs.Found.{row_in, rows_in}
use Rattle.planned_rules.specs.Planned.{rule_of, element_of}
use Rattle.symbol_rules.specs.Reading.{item_in, HasItem}
use Rattle.choice_instances.specs.inner.Items.{IsInside, IsItemAt}
use Rattle.choice_instances.proofs.ListLemmas.{all_append, all_at}
use Rattle.choice_instances.proofs.ItemLemmas.{items_known-front, inside-front, item_before, made_more}
use Rattle.choice_instances.proofs.items.items_of.Goals as goal

pub item-requires-clause-row : goal.item-requires-clause-row
item-requires-clause-row c =
    let old = c.args.symbols.now in
    let rule = rule_of c.args.rule.now in
    let element = element_of c.args.choice.now in
    let row = c.index-rows-place.result in
    inside-front old c.loop-place.symbols rule c.args.values.now c.loop-place.invariant.kept c.requires.values element row
    (all_at (IsInside old rule (map (value_in old) c.args.values.now) element) c.args.rows.now c.loop-place.place row row c.index-rows-place.is c.loop-place-test.true c.requires.rows)

pub loop-place-preserved : goal.loop-place-preserved
loop-place-preserved c =
    let old = c.args.symbols.now in
    let now = c.loop-place.symbols in
    let new = c.item.new.symbols in
    let rule = rule_of c.args.rule.now in
    let element = element_of c.args.choice.now in
    let values = map (value_in old) c.args.values.now in
    let row = c.index-rows-place.result in
    let made = c.loop-place.made in
    let one = c.in-Ok.one in
    let inside = all_at (IsInside old rule values element) c.args.rows.now c.loop-place.place row row c.index-rows-place.is c.loop-place-test.true c.requires.rows in
    record {
      items =
          subst (λ all. AllZip (IsItemAt rule values element) (rows_in old (take (c.loop-place.place + 1) c.args.rows.now)) (map (item_in new) all)) (sym c.in-Ok-pushed.ensures)
          (made_more now new (IsItemAt rule values element) (row_in old) c.args.rows.now c.loop-place.place row row made one c.in-Ok.ensures.kept c.loop-place.invariant.known
          c.index-rows-place.is c.loop-place-test.true c.loop-place.invariant.items
          (item_before old now rule c.args.values.now c.loop-place.invariant.kept c.requires.values element row (item_in new one) inside.known c.in-Ok.ensures.item));
      known =
          subst (AllByRecursion (HasItem (length new))) (sym c.in-Ok-pushed.ensures)
          (all_append (HasItem (length new)) made (one ∷ []) (items_known-front now new made c.in-Ok.ensures.kept c.loop-place.invariant.known) (c.in-Ok.ensures.known, tt));
      kept = IsFront-trans old now new c.loop-place.invariant.kept c.in-Ok.ensures.kept;
    }
