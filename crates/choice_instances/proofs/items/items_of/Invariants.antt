use Rattle.std.proofs.Common.{length, map, take}
use Rattle.std.specs.List.{AllByRecursion, AllZip}
use Rattle.symbols.specs.Table.{IsFront}
use Rattle.program_meaning.specs.Said.{value_in}
use Rattle.instance_search.specs.Found.{rows_in}
use Rattle.planned_rules.specs.Planned.{rule_of, element_of}
use Rattle.symbol_rules.specs.Reading.{item_in, HasItem}
use Rattle.choice_instances.specs.inner.Items.{IsItemAt}
use Rattle.choice_instances.proofs.items.items_of.Given as goal

abbrev pub invariant-loop-place : goal.invariant-loop-place
invariant-loop-place l = record {
  items : AllZip (IsItemAt (rule_of l.rule) (map (value_in l.fn.symbols) l.values) (element_of l.choice)) (rows_in l.fn.symbols (take l.place l.rows)) (map (item_in l.symbols) l.made);
  known : AllByRecursion (HasItem (length l.symbols)) l.made;
  kept : IsFront l.fn.symbols l.symbols;
}
