use Rattle.std.proofs.Common.{◌+◌, sym}
use Rattle.grammar.specs.Word.{words_at}
use Rattle.grammar.specs.Reading.{level}
use Rattle.grammar.specs.StatementReading.{body_with}
use Rattle.theory_grammar.proofs.TermReads.{fails_along}
use Rattle.asp_parser.proofs.StatementReads.{arrow_none, arrow_some, arrow_fails}
use Rattle.asp_parser.proofs.statement.arrow.Goals as goal

pub returns-then-not-is_mark : goal.returns-then-not-is_mark
returns-then-not-is_mark c = arrow_none c.args.text.now c.args.tokens.now c.args.at c.args.refused c.args.kept.now _ (sym c.if-not-is_mark.ensures.is) c.requires.at c.new.ensures

pub returns-in-Ok : goal.returns-in-Ok
returns-in-Ok c = arrow_some c.args.text.now c.args.tokens.now c.args.at c.args.refused c.args.kept.now c.fail_at.new.self c.body.new.kept c.in-Ok.literals c.in-Ok.next (sym c.if-not-is_mark.ensures.is) c.fail_at.ensures c.in-Ok.ensures

pub returns-in-Err : goal.returns-in-Err
returns-in-Err c =
    fails_along c.args.text.now c.args.tokens.now c.in-Err.stop (body_with (level 64) (words_at c.args.text.now c.args.tokens.now (c.args.at + 1))) _ (λ f h. arrow_fails c.args.text.now c.args.tokens.now c.args.at f (sym c.if-not-is_mark.ensures.is) h) c.in-Err.ensures
