use Rattle.std.proofs.Common.{◌≡◌, ◌++◌, drop, length}
use Rattle.std.specs.List.{AllByRecursion}
use Rattle.symbol_rules.specs.Reading.{HasItem}
use Rattle.numbered_rules.specs.inner.ByNumber.{items_by}
use Rattle.numbered_rules.proofs.rules.items_of.Given as goal

abbrev pub invariant-loop-item : goal.invariant-loop-item
invariant-loop-item l = record {
  so_far : l.made ++ items_by l.atoms (drop l.item-index l.items) ≡ items_by l.atoms l.items;
  left : AllByRecursion (HasItem (length l.atoms)) (drop l.item-index l.items);
}
