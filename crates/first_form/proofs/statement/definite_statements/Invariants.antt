use Rattle.std.proofs.Common.{◌≡◌, map, take, Some}
use Rattle.symbols.specs.Table.{IsFront, IsOnce}
use Rattle.first_form.specs.Form.{HaveKnown, all_there, rule_of, rules_in}
use Rattle.first_form.proofs.statement.definite_statements.Given as goal

abbrev pub invariant-loop-statement : goal.invariant-loop-statement
invariant-loop-statement l = record {
  read : all_there (map rule_of (take l.statement-index l.statements)) ≡ Some (rules_in l.symbols l.found);
  known : HaveKnown l.symbols l.found;
  kept : IsFront l.fn.symbols l.symbols;
  once : IsOnce l.fn.symbols → IsOnce l.symbols;
}
