use Rattle.std.proofs.Common.{List, take}
use Rattle.predicate_order.specs.Ways.{NamedWay}
use Rattle.predicate_order.specs.Judged.{AreWays, AnyTurns}
use Rattle.predicate_order.proofs.reached.any_turns.Given as goal

abbrev pub invariant-loop-reads : goal.invariant-loop-reads
invariant-loop-reads l = record {
  kept : (named : List NamedWay) → AreWays named l.fn.ways → AreWays named l.ways;
  none : (named : List NamedWay) → AreWays named l.fn.ways → AnyTurns named (take l.reads-index l.all) → ⊥;
}
