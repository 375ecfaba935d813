use Rattle.std.proofs.Common.{take}
use Rattle.unfounded_sets.specs.inner.Sources.{AreLower}
use Rattle.unfounded_sets.proofs.sources.are_lower.Given as goal

abbrev pub invariant-loop-other : goal.invariant-loop-other
invariant-loop-other l = AreLower l.level l.rank l.atom (take l.other-index l.row)
