use Rattle.std.proofs.Common.{◌≡◌, ◌<◌, ◌++◌, drop, length, map}
use Rattle.std.specs.List.{AllByRecursion}
use Rattle.numbered_rules.specs.inner.ByNumber.{pair_by}
use Rattle.numbered_rules.proofs.linear.linear.Given as goal

abbrev pub invariant-loop-pair : goal.invariant-loop-pair
invariant-loop-pair l = record {
  so_far : l.pairs ++ map (pair_by l.numbers) (drop l.pair-index l.pair-items) ≡ map (pair_by l.numbers) l.pair-items;
  left : AllByRecursion (λ pair. pair.0 < length l.numbers) (drop l.pair-index l.pair-items);
}
