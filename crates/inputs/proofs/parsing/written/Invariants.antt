use Rattle.std.proofs.Common.{take}
use Rattle.std.specs.Prelude.{IsTrue}
use Rattle.syntax_tree.specs.Statements.{is_program}
use Rattle.inputs.specs.Texts.{IsWritten}
use Rattle.inputs.proofs.parsing.written.Given as goal

abbrev pub invariant-loop-at : goal.invariant-loop-at
invariant-loop-at l = record {
  written : IsWritten (take l.at l.texts) l.program;
  tree : IsTrue (is_program l.program);
}
