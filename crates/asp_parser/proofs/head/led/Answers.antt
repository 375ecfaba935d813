use Rattle.std.proofs.Common.{false, sym, subst}
use Rattle.grammar.specs.Word.{words_at}
use Rattle.grammar.specs.Reading.{term_at, level}
use Rattle.grammar.specs.StatementReading.{bounded_with}
use Rattle.theory_grammar.specs.State.{Reads}
use Rattle.theory_grammar.specs.TheoryState.{judged_class}
use Rattle.theory_grammar.proofs.TermReads.{fails_along}
use Rattle.theory_grammar.proofs.ConditionReads.{shape_not_atom}
use Rattle.asp_parser.proofs.HeadReads.{led_choice, led_term_fails, led_bounded_fails, led_nothing, led_atom}
use Rattle.asp_parser.proofs.head.led.Goals as goal

pub returns-in-Err : goal.returns-in-Err
returns-in-Err c =
    fails_along c.args.text.now c.args.tokens.now c.in-Err.stop (term_at 64 (words_at c.args.text.now c.args.tokens.now c.args.at)) _ (λ f h. led_term_fails c.args.text.now c.args.tokens.now c.args.at f h) c.in-Err.ensures

pub returns-in-Ok-bounded : goal.returns-in-Ok-bounded
returns-in-Ok-bounded c =
    led_choice c.args.text.now c.args.tokens.now c.args.at c.args.kept.now c.bounded.new.kept c.judged_term.new.seen c.in-Ok.left.term c.in-Ok.left.shape c.in-Ok-bounded.choice c.in-Ok.left.next c.in-Ok-bounded.next c.in-Ok.ensures (sym c.if-is_bounding.ensures) c.in-Ok-bounded.ensures

pub returns-in-Err-bounded : goal.returns-in-Err-bounded
returns-in-Err-bounded c =
    fails_along c.args.text.now c.args.tokens.now c.in-Err-bounded.stop (bounded_with (level 64) (words_at c.args.text.now c.args.tokens.now c.in-Ok.left.next)) _
    (λ f h. led_bounded_fails c.args.text.now c.args.tokens.now c.args.at c.in-Ok.left.next c.in-Ok.ensures.form f c.in-Ok.ensures.is (sym c.if-is_bounding.ensures) h) c.in-Err-bounded.ensures

pub returns-in-Ok-enter : goal.returns-in-Ok-enter
returns-in-Ok-enter c =
    led_atom c.args.text.now c.args.tokens.now c.args.at c.args.kept.now c.judged_term.new.seen c.enter.new.self c.in-Ok.left.term c.in-Ok.left.next _ (sym c.if-is_bounding.ensures)
    (subst (λ s. Reads (judged_class false) c.args.text.now c.args.tokens.now c.args.at c.args.kept.now.seen c.judged_term.new.seen c.in-Ok.left.term s c.in-Ok.left.next) c.in-Atom.is c.in-Ok.ensures) c.len-before.ensures c.in-Ok-enter.ensures

pub returns-in_default : goal.returns-in_default
returns-in_default c =
    (led_nothing c.args.text.now c.args.tokens.now c.args.at c.in-Ok.left.next c.in-Ok.ensures.form c.in-Ok.ensures.is (sym c.if-is_bounding.ensures) (shape_not_atom c.in-Ok.ensures.form c.in-Ok.left.shape c.in-Ok.ensures.shaped c.in_default.not-Atom), c.in-Ok.ensures.within)
