use Rattle.std.proofs.Common.{◌≡◌, ◌+◌, map, take, vec_items}
use Rattle.linear_normal.specs.Bodies.{numbers_with}
use Rattle.linear_normal.proofs.selections.selections.Given as goal

abbrev pub invariant-loop-item : goal.invariant-loop-item
invariant-loop-item l = record {
  number : l.number ≡ l.first + l.item-index;
  rows : map vec_items l.rows.items ≡ map (numbers_with l.first (take l.item-index l.items)) l.atoms.items;
}
