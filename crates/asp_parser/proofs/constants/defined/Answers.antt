use Rattle.std.proofs.Common.{length, refl, subst, sym, ◌<◌}
use Rattle.std.proofs.lemmas.Option.{slice_get-get_or, slice_get_read}
use Rattle.asp_parser.proofs.StopLemmas.{first_stop}
use Rattle.asp_parser.proofs.constants.defined.Goals as goal

pub returns-in-Err-add_statement-clause-bad : goal.returns-in-Err-add_statement-clause-bad
returns-in-Err-add_statement-clause-bad c =
    first_stop c.args.statements.now c.args.files.now c.loop-at.at _ _ _ c.in-Err-add_statement.stop c.in-Err-add_statement.ensures.bad
    c.loop-at.invariant.defined
    (slice_get_read c.args.statements.now (length c.args.statements.now) c.loop-at.at c.index-statements-at.result refl c.loop-at-test.true c.index-statements-at.is)
    (slice_get-get_or c.args.files.now c.loop-at.at 0 (subst (λ n. c.loop-at.at < n) (sym c.requires.files) c.loop-at-test.true))
