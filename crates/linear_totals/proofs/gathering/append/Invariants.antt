use Rattle.std.proofs.Common.{◌≡◌, ◌++◌, drop}
use Rattle.linear_totals.proofs.gathering.append.Given as goal

abbrev pub invariant-loop-pair : goal.invariant-loop-pair
invariant-loop-pair l = l.pairs.items ++ drop l.pair-index l.more ≡ l.fn.pairs.items ++ l.more
