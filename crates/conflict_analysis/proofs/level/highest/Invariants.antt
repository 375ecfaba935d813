use Rattle.std.proofs.Common.{◌≡◌, max, drop}
use Rattle.conflict_analysis.specs.Levels.{highest}
use Rattle.conflict_analysis.proofs.level.highest.Given as goal

abbrev pub invariant-loop-lit : goal.invariant-loop-lit
invariant-loop-lit l = highest l.trail l.lits ≡ max l.most (highest l.trail (drop l.lit-index l.lits))
