use Rattle.std.proofs.Common.{◌≡◌, ◌++◌, drop}
use Rattle.collected_terms.proofs.sums.append_from.Given as goal

abbrev pub invariant-loop-at : goal.invariant-loop-at
invariant-loop-at l = l.out ++ drop l.at l.pairs ≡ l.fn.out ++ drop l.fn.from l.pairs
