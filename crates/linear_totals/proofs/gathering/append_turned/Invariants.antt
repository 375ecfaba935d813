use Rattle.std.proofs.Common.{◌≡◌, ◌++◌, map, drop}
use Rattle.linear_totals.specs.inner.Sums.{turned}
use Rattle.linear_totals.proofs.gathering.append_turned.Given as goal

abbrev pub invariant-loop-pair : goal.invariant-loop-pair
invariant-loop-pair l = l.pairs.items ++ map turned (drop l.pair-index l.more) ≡ l.fn.pairs.items ++ map turned l.more
