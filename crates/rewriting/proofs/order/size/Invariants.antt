use Rattle.std.proofs.Common.{take}
use Rattle.std.specs.List.{AllByRecursion}
use Rattle.rewriting.specs.inner.Flags.{IsBelow}
use Rattle.rewriting.proofs.order.size.Given as goal

abbrev pub invariant-loop-sight : goal.invariant-loop-sight
invariant-loop-sight l = AllByRecursion (IsBelow l.size) (take l.sight-index l.sights)
