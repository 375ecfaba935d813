use Rattle.std.proofs.Common.{◌≡◌, ◌≤◌, List, map}
use Rattle.std.specs.List.{AllZip}
use Rattle.syntax_tree.specs.declared.statement.Statement.{Statement}
use Rattle.rewriting.specs.Rewritten.{rewritten_statement}
use Rattle.rewriting.specs.Order.{order_of_statement, sights_of_statement}
use Rattle.program_meaning.specs.Read.{ReadRule}
use Rattle.predicate_order.specs.Ways.{NamedWay, blocking_ways, step_ways}
use Rattle.predicate_order.specs.Judged.{AreWays, Judges}
use Rattle.safety_meaning.specs.Program.{rules_of}
use Rattle.safety.specs.inner.Rules.{IsTwin, AreFineBefore}
use Rattle.safety.proofs.finding.search.Given as goal

abbrev pub invariant-loop-index : goal.invariant-loop-index
invariant-loop-index l = record {
  within : l.place ≤ l.index;
  kept : (named : List NamedWay) → AreWays named l.fn.steps → AreWays named l.steps;
  fine : (bare : List ReadRule) (all : List Statement) → Judges l.ways.table.keys l.flags (blocking_ways bare) → AreWays (step_ways bare) l.fn.steps
      → AllZip IsTwin bare (rules_of all) → l.statements ≡ map rewritten_statement all → l.orders ≡ map order_of_statement all
      → l.sights ≡ map sights_of_statement all → AreFineBefore all l.index l.place;
}
