use Rattle.std.proofs.Common.{map}
use Rattle.predicate_order.specs.Ways.{from_other}
use Rattle.predicate_order.specs.Judged.{Adds}
use Rattle.predicate_order.proofs.ways.Ways.push_others.Given as goal

abbrev pub invariant-loop-other : goal.invariant-loop-other
invariant-loop-other l = Adds l.number (λ head. map (from_other head) l.yielded) l.fn.self l.self
