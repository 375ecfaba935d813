use Rattle.std.proofs.Common.{◌≡◌, map, take}
use Rattle.std.specs.List.{AllZip}
use Rattle.program_meaning.specs.Read.{rules_read}
use Rattle.planned_rules.specs.Planned.{rule_of}
use Rattle.planned_texts.specs.Ready.{IsReady}
use Rattle.planned_texts.proofs.planning.planned_statements.Given as goal

abbrev pub invariant-loop-at : goal.invariant-loop-at
invariant-loop-at l = record {
  rules : map rule_of l.rules ≡ rules_read (take l.at l.statements) (take l.at l.orders);
  ready : AllZip IsReady l.rules l.plans;
}
