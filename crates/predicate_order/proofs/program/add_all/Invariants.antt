use Rattle.std.proofs.Common.{◌++◌, List}
use Rattle.std.specs.List.{flat_map}
use Rattle.predicate_order.specs.Ways.{NamedWay, ways_of}
use Rattle.predicate_order.specs.Judged.{AreWays}
use Rattle.predicate_order.proofs.program.add_all.Given as goal

abbrev pub invariant-loop-reads : goal.invariant-loop-reads
invariant-loop-reads l = (before : List NamedWay) → AreWays before l.fn.ways → AreWays (before ++ flat_map ways_of l.yielded) l.ways
