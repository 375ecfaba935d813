use Rattle.std.proofs.Common.{◌≡◌, map}
use Rattle.rewriting.specs.Rewritten.{rewritten_statement}
use Rattle.rewriting.specs.Order.{order_of_statement, sights_of_statement}
use Rattle.rewriting.proofs.program.rewrite.Given as goal

abbrev pub invariant-loop-statement : goal.invariant-loop-statement
invariant-loop-statement l = record {
  done : l.done ≡ map rewritten_statement l.yielded;
  orders : l.orders ≡ map order_of_statement l.yielded;
  sights : l.all_sights ≡ map sights_of_statement l.yielded;
}
