use Rattle.std.proofs.Common.{◌≡◌, ◌++◌, map, drop}
use Rattle.linear_normal.specs.inner.Tables.{value_item}
use Rattle.linear_normal.proofs.relation.value_items.Given as goal

abbrev pub invariant-loop-pair : goal.invariant-loop-pair
invariant-loop-pair l = l.items ++ map value_item (drop l.pair-index l.pairs) ≡ map value_item l.pairs
