use Rattle.std.proofs.Common.{sym, arith}
use Rattle.grammar.specs.declared.mark.Mark.TheVariants as m
use Rattle.grammar.specs.Word.{words_at}
use Rattle.grammar.specs.Reading.{level}
use Rattle.grammar.specs.StatementReading.{head_with, arrow_with}
use Rattle.theory_grammar.proofs.TermReads.{fails_along}
use Rattle.theory_grammar.proofs.Loops.{mark_within}
use Rattle.asp_parser.proofs.StatementReads.{rule_take, rule_head_fails, rule_arrow_fails, rule_open}
use Rattle.asp_parser.proofs.statement.rule.Goals as goal

pub returns-in-Err : goal.returns-in-Err
returns-in-Err c =
    fails_along c.args.text.now c.args.tokens.now c.in-Err.stop (head_with (level 64) (words_at c.args.text.now c.args.tokens.now c.args.at)) _ (λ f h. rule_head_fails c.args.text.now c.args.tokens.now c.args.at f h) c.in-Err.ensures

pub returns-then-not-is_mark : goal.returns-then-not-is_mark
returns-then-not-is_mark c = (
  rule_open c.args.text.now c.args.tokens.now c.args.at c.args.kept.now c.head.new.kept c.arrow.new.kept c.in-Ok.read.0 c.in-Ok-arrow.tail c.stands_alone-refused.result c.in-Ok.read.1 c.in-Ok-arrow.dot c.in-Ok.ensures c.in-Ok-arrow.ensures
      (sym c.if-not-is_mark.ensures.is),
  c.in-Ok-arrow.ensures.within,
)

pub returns-else-not-is_mark : goal.returns-else-not-is_mark
returns-else-not-is_mark c =
    rule_take c.args.text.now c.args.tokens.now c.args.at c.args.kept.now c.head.new.kept c.arrow.new.kept c.in-Ok.read.0 c.in-Ok-arrow.tail.0 c.in-Ok-arrow.tail.1 c.stands_alone-refused.result c.in-Ok.read.1 c.in-Ok-arrow.dot c.in-Ok.ensures c.stands_alone-refused.ensures
    c.in-Ok-arrow.ensures (sym c.if-not-is_mark.ensures.is) (omega (arith, mark_within c.args.text.now c.args.tokens.now m.Dot c.in-Ok-arrow.dot (sym c.if-not-is_mark.ensures.is)))

pub returns-in-Err-arrow : goal.returns-in-Err-arrow
returns-in-Err-arrow c =
    fails_along c.args.text.now c.args.tokens.now c.in-Err-arrow.stop (arrow_with (level 64) (words_at c.args.text.now c.args.tokens.now c.in-Ok.read.1)) _
    (λ f h. rule_arrow_fails c.args.text.now c.args.tokens.now c.args.at c.args.kept.now c.head.new.kept c.in-Ok.read.0 c.in-Ok.read.1 f c.in-Ok.ensures h) c.in-Err-arrow.ensures
