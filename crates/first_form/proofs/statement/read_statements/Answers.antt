use Rattle.std.proofs.Common.{arith}
use Rattle.first_form.specs.Form.{rules_in}
use Rattle.first_form.proofs.Stated.{answer_states, answer_none}
use Rattle.first_form.proofs.statement.read_statements.Goals as goal

pub returns-clause-read : goal.returns-clause-read
returns-clause-read c =
    answer_states c.args.statements.now (rules_in c.definite_statements.new.symbols) c.definite_statements.result (omega (arith, c.if-statements-gt-MAX_STATEMENTS.false)) c.definite_statements.ensures.read

pub returns-clause-other : goal.returns-clause-other
returns-clause-other c = answer_none c.args.statements.now (rules_in c.definite_statements.new.symbols) c.definite_statements.result c.definite_statements.ensures.read
