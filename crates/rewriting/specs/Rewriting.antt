-- Programs rewritten.
use Rattle.std.specs.Prelude.{◌≡◌, map}
use Rattle.syntax_tree.specs.declared.statement.Program.{Program}
use Rattle.rewriting.specs.declared.program.RewrittenProgram.{RewrittenProgram}
use Rattle.rewriting.specs.Rewritten.{rewritten_statement}
use Rattle.rewriting.specs.Order.{order_of_statement, sights_of_statement}

-- each statement is rewritten and stays in its text, and beside it stand its variables in order and what is seen in it
pub record IsRewriting (old : Program) (new : RewrittenProgram) : Type 0 where
  pub statements : new.program.statements ≡ map rewritten_statement old.statements
  pub files : new.program.files ≡ old.files
  pub orders : new.orders ≡ map order_of_statement old.statements
  pub sights : new.sights ≡ map sights_of_statement old.statements
