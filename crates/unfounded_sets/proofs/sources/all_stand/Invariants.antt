use Rattle.std.proofs.Common.{take}
use Rattle.std.specs.List.{AllByRecursion}
use Rattle.unfounded_sets.specs.inner.Sources.{Stands}
use Rattle.unfounded_sets.proofs.sources.all_stand.Given as goal

abbrev pub invariant-loop-atom : goal.invariant-loop-atom
invariant-loop-atom l = AllByRecursion (Stands l.trail l.source) (take l.atom-index l.cyclic)
