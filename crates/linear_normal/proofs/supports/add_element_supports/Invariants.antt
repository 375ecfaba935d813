use Rattle.std.proofs.Common.{◌≡◌, ◌+◌, ◌++◌, drop}
use Rattle.linear_normal.specs.Numbering.{element_supports}
use Rattle.linear_normal.proofs.supports.add_element_supports.Given as goal

abbrev pub invariant-loop-item : goal.invariant-loop-item
invariant-loop-item l = l.supports ++ element_supports (l.place + 1) (drop l.item-index l.items) ≡ l.fn.supports ++ element_supports (l.first + 1) l.items
