use Rattle.std.proofs.Common.{◌≡◌, max, drop}
use Rattle.conflict_analysis.specs.inner.Runs.{highest_but}
use Rattle.conflict_analysis.proofs.level.next_highest.Given as goal

abbrev pub invariant-loop-lit : goal.invariant-loop-lit
invariant-loop-lit l = highest_but l.trail l.high l.lits ≡ max l.most (highest_but l.trail l.high (drop l.lit-index l.lits))
