use Rattle.std.proofs.lemmas.Result.{err_from_is_err_and}
use Rattle.first_form.specs.Form.{literal_of}
use Rattle.first_form.proofs.Each.{symbols_more}
use Rattle.first_form.proofs.Functions.{fails_with}
use Rattle.first_form.proofs.Tables.{known_push, kept_on}
use Rattle.first_form.proofs.There.{there_none}
use Rattle.first_form.proofs.statement.body.Goals as goal

pub returns-in_err-id-clause-read : goal.returns-in_err-id-clause-read
returns-in_err-id-clause-read c =
    let p = err_from_is_err_and c.from_residual.result c.from_residual.ensures.1 in
    rw (p.1, p.2) (fails_with c.in_err-id.field-0.0 _ _ (there_none literal_of c.args.literals.now c.loop-literal.literal-index c.literal-item.result c.literal-item.is c.loop-literal-test.true) c.in_err-id.ensures.read)

pub loop-literal-preserved : goal.loop-literal-preserved
loop-literal-preserved c = record {
  read = symbols_more literal_of c.args.literals.now c.loop-literal.literal-index c.literal-item.result c.loop-literal.symbols c.positive.new.symbols c.loop-literal.ids c.push.new.self c.in_ok-id.id
      c.literal-item.is c.loop-literal-test.true c.in_ok-id.ensures.kept c.loop-literal.invariant.known c.loop-literal.invariant.read c.in_ok-id.ensures.read c.in_ok-push.ensures.ok;
  known = known_push c.loop-literal.symbols c.positive.new.symbols c.loop-literal.ids c.push.new.self c.in_ok-id.id c.in_ok-id.ensures.kept c.loop-literal.invariant.known c.in_ok-id.ensures.known c.in_ok-push.ensures.ok;
  kept = kept_on c.args.symbols.now c.loop-literal.symbols c.positive.new.symbols c.loop-literal.invariant.kept c.in_ok-id.ensures.kept;
  once = λ h. c.in_ok-id.ensures.once (c.loop-literal.invariant.once h);
}
