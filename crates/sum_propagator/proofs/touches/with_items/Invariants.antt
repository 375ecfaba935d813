use Rattle.std.proofs.Common.{◌≡◌, ◌++◌, drop, map}
use Rattle.sum_propagator.specs.Sums.{touch_of}
use Rattle.sum_propagator.proofs.touches.with_items.Given as goal

abbrev pub invariant-loop-item : goal.invariant-loop-item
invariant-loop-item l = l.all ++ map touch_of (drop l.item-index l.items) ≡ l.fn.touches ++ map touch_of l.items
