use Rattle.std.proofs.Common.{take}
use Rattle.std.specs.List.{AllByRecursion}
use Rattle.unfounded_sets.specs.inner.Sources.{IsGrouped}
use Rattle.unfounded_sets.proofs.groups.are_grouped.Given as goal

abbrev pub invariant-loop-support : goal.invariant-loop-support
invariant-loop-support l = AllByRecursion (IsGrouped l.bodies l.level l.cyclic) (take l.support-index l.supports)
