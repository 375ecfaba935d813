use Rattle.std.proofs.lemmas.Result.{err_from_is_err_and}
use Rattle.first_form.specs.Form.{rule_of}
use Rattle.first_form.proofs.Each.{rules_more}
use Rattle.first_form.proofs.Functions.{fails_with}
use Rattle.first_form.proofs.Tables.{have_known_push, kept_on}
use Rattle.first_form.proofs.There.{there_none}
use Rattle.first_form.proofs.statement.definite_statements.Goals as goal

pub returns-in_err-item-clause-read : goal.returns-in_err-item-clause-read
returns-in_err-item-clause-read c =
    let p = err_from_is_err_and c.from_residual.result c.from_residual.ensures.1 in
    rw (p.1, p.2) (fails_with c.in_err-item.field-0.0 _ _ (there_none rule_of c.args.statements.now c.loop-statement.statement-index c.statement-item.result c.statement-item.is c.loop-statement-test.true) c.in_err-item.ensures.read)

pub loop-statement-preserved : goal.loop-statement-preserved
loop-statement-preserved c = record {
  read = rules_more rule_of c.args.statements.now c.loop-statement.statement-index c.statement-item.result c.loop-statement.symbols c.definite_statement.new.symbols c.loop-statement.found c.push.new.self c.in_ok-item.item
      c.statement-item.is c.loop-statement-test.true c.in_ok-item.ensures.kept c.loop-statement.invariant.known c.loop-statement.invariant.read c.in_ok-item.ensures.read c.in_ok-push.ensures.ok;
  known = have_known_push c.loop-statement.symbols c.definite_statement.new.symbols c.loop-statement.found c.push.new.self c.in_ok-item.item c.in_ok-item.ensures.kept c.loop-statement.invariant.known c.in_ok-item.ensures.known c.in_ok-push.ensures.ok;
  kept = kept_on c.args.symbols.now c.loop-statement.symbols c.definite_statement.new.symbols c.loop-statement.invariant.kept c.in_ok-item.ensures.kept;
  once = λ h. c.in_ok-item.ensures.once (c.loop-statement.invariant.once h);
}
