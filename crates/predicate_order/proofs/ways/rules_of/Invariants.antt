use Rattle.std.proofs.Common.{◌≡◌, map, take}
use Rattle.predicate_order.specs.Ways.{rule_of}
use Rattle.predicate_order.proofs.ways.rules_of.Given as goal

abbrev pub invariant-loop-way : goal.invariant-loop-way
invariant-loop-way l = l.rules ≡ map rule_of (take l.way-index l.ways)
