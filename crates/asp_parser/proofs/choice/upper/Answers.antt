use Rattle.std.proofs.Common.{sym}
use Rattle.grammar.specs.Word.{words_at}
use Rattle.grammar.specs.Reading.{term_at}
use Rattle.theory_grammar.proofs.TermReads.{fails_along}
use Rattle.asp_parser.proofs.ChoiceReads.{right_none, right_term, right_term_fails}
use Rattle.asp_parser.proofs.choice.upper.Goals as goal

pub returns-then-not-begins_term : goal.returns-then-not-begins_term
returns-then-not-begins_term c = right_none c.args.text.now c.args.tokens.now c.args.at c.args.kept.now c.requires.plain (sym c.if-not-begins_term.ensures) c.requires.at

pub returns-in-Ok : goal.returns-in-Ok
returns-in-Ok c = right_term c.args.text.now c.args.tokens.now c.args.at c.args.kept.now c.judged_term.new.seen c.in-Ok.read.term c.in-Ok.read.shape c.in-Ok.read.next c.requires.plain (sym c.if-not-begins_term.ensures) c.in-Ok.ensures

pub returns-in-Err : goal.returns-in-Err
returns-in-Err c =
    fails_along c.args.text.now c.args.tokens.now c.in-Err.stop (term_at 64 (words_at c.args.text.now c.args.tokens.now c.args.at)) _ (λ f h. right_term_fails c.args.text.now c.args.tokens.now c.args.at f c.requires.plain (sym c.if-not-begins_term.ensures) h) c.in-Err.ensures
