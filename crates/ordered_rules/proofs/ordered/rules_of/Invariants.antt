use Rattle.std.proofs.Common.{◌≡◌, ◌++◌, map, drop}
use Rattle.std.specs.List.{AllByRecursion}
use Rattle.program_meaning.specs.Read.{rules_read}
use Rattle.ordered_rules.specs.Ordered.{read_of, IsGroundableOrdered}
use Rattle.ordered_rules.proofs.ordered.rules_of.Given as goal

abbrev pub invariant-loop-at : goal.invariant-loop-at
invariant-loop-at l = record {
  rules : map read_of l.rules ++ rules_read (drop l.at l.statements) (drop l.at l.orders) ≡ rules_read l.statements l.orders;
  groundable : AllByRecursion IsGroundableOrdered l.rules;
}
