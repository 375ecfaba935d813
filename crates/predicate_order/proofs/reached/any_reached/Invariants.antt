use Rattle.std.proofs.Common.{List, take}
use Rattle.predicate_order.specs.Ways.{NamedWay}
use Rattle.predicate_order.specs.Judged.{Judges, AnyReached}
use Rattle.predicate_order.proofs.reached.any_reached.Given as goal

abbrev pub invariant-loop-predicate : goal.invariant-loop-predicate
invariant-loop-predicate l = (ways : List NamedWay) → Judges l.table.keys l.flags ways → AnyReached ways (take l.predicate-index l.predicates) → ⊥
