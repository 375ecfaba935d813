use Rattle.std.proofs.Common.{take}
use Rattle.std.specs.List.{AllByRecursion}
use Rattle.unfounded_sets.specs.inner.Sources.{IsSourced}
use Rattle.unfounded_sets.proofs.sources.are_sourced.Given as goal

abbrev pub invariant-loop-atom : goal.invariant-loop-atom
invariant-loop-atom l = AllByRecursion (IsSourced l.bodies l.supports l.level l.sources.rank.items l.sources.source.items) (take l.atom-index l.cyclic)
