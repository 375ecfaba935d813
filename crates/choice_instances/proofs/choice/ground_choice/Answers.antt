use Rattle.std.proofs.Common.{◌≡◌, ◌∙◌, true, false, Some, map, length, sym, ap, subst}
use Rattle.std.specs.List.{AllZip, list_any}
use Rattle.std.proofs.lemmas.List.Elements.{recursion_from_All}
use Rattle.syntax_tree.specs.Outcome.{IsKnown}
use Rattle.ground_model.specs.Members.{IsMember}
use Rattle.program_meaning.specs.Count.{choices_in}
use Rattle.program_meaning.specs.Ground.{BoundAs, turned}
use Rattle.program_meaning.specs.Instance.{bound_in}
use Rattle.program_meaning.specs.Outside.{head_over, literal_over}
use Rattle.program_meaning.specs.Read.{choice_read, plains}
use Rattle.program_meaning.specs.Said.{value_in}
use Rattle.row_tests.specs.Judged.{atoms_in}
use Rattle.row_bindings.proofs.HeldLemmas.{values-front, values_known-front}
use Rattle.instance_search.specs.Found.{rows_in}
use Rattle.planned_rules.specs.Planned.{rule_of, element_of}
use Rattle.symbol_rules.specs.Reading.{item_in}
use Rattle.count_laws.specs.Keys.{keys_from}
use Rattle.choice_rows.specs.ChoiceRows.{are_flagged, AreElementRows}
use Rattle.choice_rows.proofs.RowLemmas.{choice_keys}
use Rattle.choice_instances.specs.inner.Items.{AreInside, AreBounds, IsItemOf}
use Rattle.choice_instances.proofs.ListLemmas.{zip_length, length_map}
use Rattle.choice_instances.proofs.ChoiceLemmas.{or_none, are_inside, is_over, none_over, items_as, bounds_of}
use Rattle.choice_instances.proofs.choice.ground_choice.Goals as goal

pub choice_rows-requires-clause-each : goal.choice_rows-requires-clause-each
choice_rows-requires-clause-each c = sym (length_map (value_in c.args.symbols.now) c.args.values.now) ∙ c.requires.instance.each

pub returns-then-has_over-clause-over : goal.returns-then-has_over-clause-over
returns-then-has_over-clause-over c = λ e.
    let old = c.args.symbols.now in
    is_over (IsMember (atoms_in old c.args.index.now)) c.choice_rows.new.symbols (rule_of c.args.rule.now) (map (value_in old) c.args.values.now) c.in-Ok.rows c.in-Ok.ensures.rows
    (subst (λ rows. list_any are_flagged rows ≡ true) c.items.ensures (sym c.has_over.ensures ∙ c.if-has_over.true))

pub with_items-requires-clause-values : goal.with_items-requires-clause-values
with_items-requires-clause-values c =
    let old = c.args.symbols.now in
    values_known-front old c.choice_rows.new.symbols c.args.values.now c.in-Ok.ensures.kept
    (recursion_from_All (λ value. IsKnown (length old) (Some value)) c.args.values.now c.requires.values)

pub with_items-requires-clause-rows : goal.with_items-requires-clause-rows
with_items-requires-clause-rows c =
    let old = c.args.symbols.now in
    let now = c.choice_rows.new.symbols in
    let rule = rule_of c.args.rule.now in
    let values = map (value_in old) c.args.values.now in
    let same = values-front old now c.args.values.now c.in-Ok.ensures.kept (recursion_from_All (λ value. IsKnown (length old) (Some value)) c.args.values.now c.requires.values) in
    let none = subst (λ rows. list_any are_flagged rows ≡ false) c.items.ensures (sym c.has_over.ensures ∙ c.if-has_over.false) in
    subst (λ vs. AreInside now rule vs c.items-in-Ok.result.now) (sym same)
    (subst (AreInside now rule values) (sym c.items-in-Ok.ensures) (are_inside (IsMember (atoms_in old c.args.index.now)) now rule values c.in-Ok.rows c.in-Ok.ensures.rows none))

pub with_items-requires-clause-count : goal.with_items-requires-clause-count
with_items-requires-clause-count c =
    let old = c.args.symbols.now in
    let planned = c.args.rule.now in
    let rule = rule_of planned in
    ap length c.items-in-Ok.ensures
    ∙ sym (zip_length (AreElementRows (IsMember (atoms_in old c.args.index.now)) c.choice_rows.new.symbols rule (map (value_in old) c.args.values.now)) (choices_in rule.head) c.in-Ok.rows c.in-Ok.ensures.rows)
    ∙ ap length (sym c.requires.planned.elements) ∙ length_map element_of planned.choices

pub with_items-requires-clause-stands : goal.with_items-requires-clause-stands
with_items-requires-clause-stands c =
    let old = c.args.symbols.now in
    let now = c.choice_rows.new.symbols in
    let rule = rule_of c.args.rule.now in
    let choice = c.args.choice.now in
    let values = map (value_in old) c.args.values.now in
    let same = values-front old now c.args.values.now c.in-Ok.ensures.kept (recursion_from_All (λ value. IsKnown (length old) (Some value)) c.args.values.now c.requires.values) in
    subst (λ vs. AreBounds (bound_in rule vs) choice.left choice.right) (sym same)
    (bounds_of (bound_in rule values) rule.head choice.left (map choice_read choice.elements) choice.right c.requires.head c.requires.instance.head
    (or_none (head_over (bound_in rule values) rule.head) (list_any (literal_over (plains rule.body) (bound_in rule values)) rule.body) c.requires.inside).0)

pub returns-in-Ok-with_items-clause-choice : goal.returns-in-Ok-with_items-clause-choice
returns-in-Ok-with_items-clause-choice c =
    let old = c.args.symbols.now in
    let now = c.choice_rows.new.symbols in
    let new = c.with_items.new.symbols in
    let P = IsMember (atoms_in old c.args.index.now) in
    let rule = rule_of c.args.rule.now in
    let values = map (value_in old) c.args.values.now in
    let rows = c.in-Ok.rows in
    let made = c.in-Ok-with_items.made in
    let same = values-front old now c.args.values.now c.in-Ok.ensures.kept (recursion_from_All (λ value. IsKnown (length old) (Some value)) c.args.values.now c.requires.values) in
    let keys = choice_keys P now rule values rows c.in-Ok.ensures.rows in
    let items : AllZip (IsItemOf rule values) (keys_from 0 (map (rows_in now) rows)) (map (item_in new) made.items) =
    subst (λ vs. AllZip (IsItemOf rule vs) (keys_from 0 (map (rows_in now) rows)) (map (item_in new) made.items)) same
    (subst (λ rs. AllZip (IsItemOf rule (map (value_in now) c.args.values.now)) (keys_from 0 (map (rows_in now) rs)) (map (item_in new) made.items)) c.items-in-Ok.ensures c.in-Ok-with_items.ensures.items) in
    record {
      keys = keys_from 0 (map (rows_in now) rows);
      listed = keys;
      each = items_as P now rule values (keys_from 0 (map (rows_in now) rows)) (map (item_in new) made.items) (λ key m. (keys.all key).0 m) items;
      low_bound = subst (λ vs. BoundAs turned (bound_in rule vs) c.args.choice.now.left made.left) same c.in-Ok-with_items.ensures.low;
      high_bound = subst (λ vs. BoundAs (λ rel. rel) (bound_in rule vs) c.args.choice.now.right made.right) same c.in-Ok-with_items.ensures.high;
    }

pub returns-in-Ok-with_items-clause-inside : goal.returns-in-Ok-with_items-clause-inside
returns-in-Ok-with_items-clause-inside c =
    let old = c.args.symbols.now in
    none_over (IsMember (atoms_in old c.args.index.now)) c.choice_rows.new.symbols (rule_of c.args.rule.now) (map (value_in old) c.args.values.now) c.in-Ok.rows c.in-Ok.ensures.rows
    (subst (λ rows. list_any are_flagged rows ≡ false) c.items.ensures (sym c.has_over.ensures ∙ c.if-has_over.false))
