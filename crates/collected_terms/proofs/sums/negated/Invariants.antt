use Rattle.std.proofs.Common.{negsuc}
use Rattle.collected_terms.proofs.Merges.{IsMultiplying}
use Rattle.collected_terms.proofs.sums.negated.Given as goal

abbrev pub invariant-loop-pair : goal.invariant-loop-pair
invariant-loop-pair l = IsMultiplying l.symbols (negsuc 0) l.pairs l.out l.pair-index
