use Rattle.std.proofs.Common.{◌≡◌, ◌<◌, ◌+◌, length, map, take, slice_index_or, sym, subst}
use Rattle.std.specs.List.{AllByRecursion, AllZip}
use Rattle.symbols.proofs.TableLemmas.{IsFront-trans}
use Rattle.program_meaning.specs.Count.{choices_in}
use Rattle.program_meaning.specs.Said.{value_in}
use Rattle.instance_search.specs.Found.{rows_in}
use Rattle.planned_rules.specs.Planned.{rule_of, element_of}
use Rattle.symbol_rules.specs.Reading.{item_in, HasItem}
use Rattle.count_laws.specs.Keys.{keys_from}
use Rattle.choice_rows.proofs.ElementLemmas.{choice_here}
use Rattle.choice_instances.specs.inner.Items.{IsInside, IsItemAt, IsItemOf}
use Rattle.choice_instances.proofs.ListLemmas.{all_append, zip_at}
use Rattle.choice_instances.proofs.ItemLemmas.{items_known-front, all_inside-front, items_before, joined_more}
use Rattle.choice_instances.proofs.items.items.Goals as goal

pub items_of-requires-clause-rows : goal.items_of-requires-clause-rows
items_of-requires-clause-rows c =
    let old = c.args.symbols.now in
    let now = c.loop-place.symbols in
    let planned = c.args.rule.now in
    let rule = rule_of planned in
    let values = map (value_in old) c.args.values.now in
    let place = c.loop-place.place in
    let choice = c.index-items-place.result in
    let found = c.index-rows-place.result in
    let at : choice ≡ slice_index_or planned.choices place choice = subst (λ xs. choice ≡ slice_index_or xs place choice) c.items.ensures c.index-items-place.is in
    let within : place < length planned.choices = subst (λ n. place < n) c.requires.count c.loop-place-test.true in
    let here = choice_here planned place choice choice c.requires.planned at within in
    let inside = zip_at (λ element rows. AllByRecursion (IsInside old rule values element) rows) (choices_in rule.head) c.args.rows.now place (element_of choice) found found c.requires.rows here
    c.index-rows-place.is c.loop-place-test.true in
    subst (AllByRecursion (IsInside now rule (map (value_in now) c.args.values.now) (element_of choice))) (sym c.items-in-loop-place.ensures)
    (all_inside-front old now rule c.args.values.now c.loop-place.invariant.kept c.requires.values (element_of choice) found inside)

pub loop-place-preserved : goal.loop-place-preserved
loop-place-preserved c =
    let old = c.args.symbols.now in
    let now = c.loop-place.symbols in
    let new = c.items_of.new.symbols in
    let planned = c.args.rule.now in
    let rule = rule_of planned in
    let values = map (value_in old) c.args.values.now in
    let place = c.loop-place.place in
    let choice = c.index-items-place.result in
    let element = element_of choice in
    let found = c.index-rows-place.result in
    let made = c.loop-place.made in
    let more = c.in-Ok.more in
    let at : choice ≡ slice_index_or planned.choices place choice = subst (λ xs. choice ≡ slice_index_or xs place choice) c.items.ensures c.index-items-place.is in
    let within : place < length planned.choices = subst (λ n. place < n) c.requires.count c.loop-place-test.true in
    let here = choice_here planned place choice choice c.requires.planned at within in
    let inside = zip_at (λ one rows. AllByRecursion (IsInside old rule values one) rows) (choices_in rule.head) c.args.rows.now place element found found c.requires.rows here
    c.index-rows-place.is c.loop-place-test.true in
    let is : AllZip (IsItemAt rule (map (value_in now) c.args.values.now) element) (rows_in now found) (map (item_in new) more) =
    subst (λ rs. AllZip (IsItemAt rule (map (value_in now) c.args.values.now) element) (rows_in now rs) (map (item_in new) more)) c.items-in-loop-place.ensures c.in-Ok.ensures.items in
    record {
      items =
          subst (λ all. AllZip (IsItemOf rule values) (keys_from 0 (map (rows_in old) (take (place + 1) c.args.rows.now))) (map (item_in new) all)) (sym c.in-Ok-joined.ensures)
          (joined_more rule values now new (rows_in old) c.args.rows.now place found found made more element c.in-Ok.ensures.kept c.loop-place.invariant.known c.index-rows-place.is c.loop-place-test.true here
          c.loop-place.invariant.items
          (items_before old now rule c.args.values.now c.loop-place.invariant.kept c.requires.values element found (map (item_in new) more) inside is));
      known =
          subst (AllByRecursion (HasItem (length new))) (sym c.in-Ok-joined.ensures)
          (all_append (HasItem (length new)) made more (items_known-front now new made c.in-Ok.ensures.kept c.loop-place.invariant.known) c.in-Ok.ensures.known);
      kept = IsFront-trans old now new c.loop-place.invariant.kept c.in-Ok.ensures.kept;
    }
