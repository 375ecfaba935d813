use Rattle.std.proofs.Common.{refl}
use Rattle.grammar.specs.Word.{words_at}
use Rattle.grammar.specs.Reading.{level}
use Rattle.grammar.specs.StatementReading.{right_with}
use Rattle.theory_grammar.proofs.TermReads.{fails_along}
use Rattle.asp_parser.specs.StatementState.{braces_class}
use Rattle.asp_parser.proofs.ChoiceReads.{choice_take, choice_braces_fail, choice_right_fails}
use Rattle.asp_parser.proofs.choice.choice.Goals as goal

pub returns-in-Ok-right : goal.returns-in-Ok-right
returns-in-Ok-right c =
    choice_take c.args.text.now c.args.tokens.now c.args.at c.args.kept.now c.braces.new.kept c.right.new.kept c.args.left c.in-Ok.read.0 c.in-Ok-right.right _ c.in-Ok.read.1 c.in-Ok-right.next c.in-Ok.ensures c.in-Ok-right.ensures refl

pub returns-in-Err : goal.returns-in-Err
returns-in-Err c =
    fails_along c.args.text.now c.args.tokens.now c.in-Err.stop (braces_class.read (words_at c.args.text.now c.args.tokens.now c.args.at)) _ (λ f h. choice_braces_fail c.args.text.now c.args.tokens.now c.args.at f h) c.in-Err.ensures

pub returns-in-Err-right : goal.returns-in-Err-right
returns-in-Err-right c =
    fails_along c.args.text.now c.args.tokens.now c.in-Err-right.stop (right_with (level 64) (words_at c.args.text.now c.args.tokens.now c.in-Ok.read.1)) _
    (λ f h. choice_right_fails c.args.text.now c.args.tokens.now c.args.at c.args.kept.now c.braces.new.kept c.in-Ok.read.0 c.in-Ok.read.1 f c.in-Ok.ensures h) c.in-Err-right.ensures
