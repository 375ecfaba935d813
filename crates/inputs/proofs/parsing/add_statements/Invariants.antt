use Rattle.std.proofs.Common.{◌≡◌, ◌++◌}
use Rattle.std.specs.Prelude.{replicate}
use Rattle.inputs.proofs.parsing.add_statements.Given as goal

abbrev pub invariant-loop : goal.invariant-loop
invariant-loop l = record {
  files : l.program.files ≡ l.fn.program.files ++ replicate l.counter l.number;
  statements : l.program.statements ≡ l.fn.program.statements;
}
