use Rattle.std.proofs.Common.{◌≡◌, ◌++◌, map, drop}
use Rattle.linear_normal.specs.inner.Tables.{opposite_item}
use Rattle.linear_normal.proofs.compared.opposite_items.Given as goal

abbrev pub invariant-loop-item : goal.invariant-loop-item
invariant-loop-item l = l.other ++ map opposite_item (drop l.item-index l.items) ≡ map opposite_item l.items
