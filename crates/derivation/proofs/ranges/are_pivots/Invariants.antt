use Rattle.std.proofs.Common.{◌≡◌, drop}
use Rattle.derivation.specs.Spelling.{are_pivots}
use Rattle.derivation.proofs.ranges.are_pivots.Given as goal

abbrev pub invariant-loop-lit : goal.invariant-loop-lit
invariant-loop-lit l = are_pivots l.pivots ≡ are_pivots (drop l.lit-index l.pivots)
