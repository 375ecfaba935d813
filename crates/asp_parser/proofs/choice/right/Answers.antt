use Rattle.std.proofs.Common.{sym}
use Rattle.grammar.specs.Word.{words_at}
use Rattle.grammar.specs.Reading.{level}
use Rattle.grammar.specs.TheoryReading.{compared_with}
use Rattle.theory_grammar.proofs.TermReads.{fails_along}
use Rattle.asp_parser.proofs.ChoiceReads.{right_rel, right_rel_fails}
use Rattle.asp_parser.proofs.choice.right.Goals as goal

pub returns-in-Ok : goal.returns-in-Ok
returns-in-Ok c = right_rel c.args.text.now c.args.tokens.now c.args.at c.args.kept.now c.compared.new.seen c.in-Some.rel c.in-Ok.guard c.in-Ok.next (sym c.in-Some.ensures.is) c.in-Ok.ensures

pub returns-in-Err : goal.returns-in-Err
returns-in-Err c =
    fails_along c.args.text.now c.args.tokens.now c.in-Err.stop (compared_with (level 64) (words_at c.args.text.now c.args.tokens.now c.args.at)) _ (λ f h. right_rel_fails c.args.text.now c.args.tokens.now c.args.at c.in-Some.rel f (sym c.in-Some.ensures.is) h) c.in-Err.ensures
