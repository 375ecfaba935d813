use Rattle.collected_terms.proofs.Merges.{IsMultiplying}
use Rattle.collected_terms.proofs.sums.multiplied.Given as goal

abbrev pub invariant-loop-pair : goal.invariant-loop-pair
invariant-loop-pair l = IsMultiplying l.symbols l.by l.pairs l.out l.pair-index
