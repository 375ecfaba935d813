use Rattle.std.proofs.Common.{length, ◌+◌, ◌-◌}
use Rattle.collected_terms.proofs.Merges.{IsMerging}
use Rattle.collected_terms.proofs.sums.merged.Given as goal

abbrev pub invariant-merge : goal.invariant-merge
invariant-merge l = IsMerging l.symbols l.a l.b l.out l.at l.to

abbrev pub decreases-merge : goal.decreases-merge
decreases-merge l = (length l.a + length l.b) - (l.at + l.to)
