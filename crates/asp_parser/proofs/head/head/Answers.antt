use Rattle.std.proofs.Common.{sym}
use Rattle.grammar.specs.Word.{words_at}
use Rattle.grammar.specs.Reading.{level}
use Rattle.grammar.specs.TheoryReading.{theory_at}
use Rattle.grammar.specs.StatementReading.{free_with}
use Rattle.theory_grammar.proofs.TermReads.{fails_along}
use Rattle.asp_parser.proofs.HeadReads.{head_theory, head_theory_fails, head_led, head_free, head_free_fails}
use Rattle.asp_parser.proofs.head.head.Goals as goal

pub returns-in-Ok : goal.returns-in-Ok
returns-in-Ok c = head_theory c.args.text.now c.args.tokens.now c.args.at c.args.kept.now c.theory.new.kept c.in-Ok.atom c.in-Ok.next (sym c.if-is_mark.ensures.is) c.in-Ok.ensures

pub returns-in-Err : goal.returns-in-Err
returns-in-Err c =
    fails_along c.args.text.now c.args.tokens.now c.in-Err.stop (theory_at 64 (words_at c.args.text.now c.args.tokens.now c.args.at)) _ (λ f h. head_theory_fails c.args.text.now c.args.tokens.now c.args.at f (sym c.if-is_mark.ensures.is) h) c.in-Err.ensures

pub returns-then-begins_term : goal.returns-then-begins_term
returns-then-begins_term c = head_led c.args.text.now c.args.tokens.now c.args.at c.args.kept.now c.led.new.kept c.led.result (sym c.if-is_mark.ensures.is) (sym c.if-begins_term.ensures) c.led.ensures

pub returns-in-Ok-choice : goal.returns-in-Ok-choice
returns-in-Ok-choice c = head_free c.args.text.now c.args.tokens.now c.args.at c.args.kept.now c.choice.new.kept c.in-Ok-choice.choice c.in-Ok-choice.next (sym c.if-is_mark.ensures.is) (sym c.if-begins_term.ensures) c.in-Ok-choice.ensures

pub returns-in-Err-choice : goal.returns-in-Err-choice
returns-in-Err-choice c =
    fails_along c.args.text.now c.args.tokens.now c.in-Err-choice.stop (free_with (level 64) (words_at c.args.text.now c.args.tokens.now c.args.at)) _ (λ f h. head_free_fails c.args.text.now c.args.tokens.now c.args.at f (sym c.if-is_mark.ensures.is) (sym c.if-begins_term.ensures) h) c.in-Err-choice.ensures
