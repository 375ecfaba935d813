use Rattle.std.proofs.Common.{take}
use Rattle.predicate_order.specs.Ways.{bare_rules, blocking_ways}
use Rattle.predicate_order.specs.Judged.{AreWays}
use Rattle.predicate_order.proofs.program.blocking.Given as goal

abbrev pub invariant-loop-statement : goal.invariant-loop-statement
invariant-loop-statement l = AreWays (blocking_ways (bare_rules (take l.statement-index l.statements))) l.ways
