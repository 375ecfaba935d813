use Rattle.std.proofs.Common.{◌≡◌, ◌++◌, drop, map}
use Rattle.std.specs.List.{AllByRecursion}
use Rattle.linear_normal.specs.inner.Sums.{opposite_pair, HasSmallCoefficient}
use Rattle.linear_normal.proofs.sums.take_pairs.Given as goal

abbrev pub invariant-loop-variable : goal.invariant-loop-variable
invariant-loop-variable l = record {
  so_far : l.gathered.items ++ map opposite_pair (drop l.variable-index l.pairs) ≡ l.fn.gathered.items ++ map opposite_pair l.pairs;
  left : AllByRecursion HasSmallCoefficient (drop l.variable-index l.pairs);
}
