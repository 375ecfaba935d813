use Rattle.std.proofs.Common.{◌+◌, sym, arith}
use Rattle.grammar.specs.declared.mark.Mark.TheVariants as m
use Rattle.grammar.specs.Word.{words_at}
use Rattle.grammar.specs.Reading.{level}
use Rattle.grammar.specs.StatementReading.{chosens_with}
use Rattle.theory_grammar.proofs.TermReads.{fails_along}
use Rattle.theory_grammar.proofs.Loops.{mark_within}
use Rattle.asp_parser.proofs.ChoiceReads.{no_open, no_close, braces_take, inside_fails}
use Rattle.asp_parser.proofs.choice.braces.Goals as goal

pub returns-then-not-is_mark : goal.returns-then-not-is_mark
returns-then-not-is_mark c = (no_open c.args.text.now c.args.tokens.now c.args.at (sym c.if-not-is_mark.ensures.is), c.requires.at)

pub returns-then-not-is_mark-2 : goal.returns-then-not-is_mark-2
returns-then-not-is_mark-2 c =
    (no_close c.args.text.now c.args.tokens.now c.args.at c.args.kept.now c.elements.new.kept c.in-Ok.found c.in-Ok.brace (sym c.if-not-is_mark.ensures.is) c.in-Ok.ensures (sym c.if-not-is_mark-2.ensures.is), c.in-Ok.ensures.within)

pub returns-else-not-is_mark-2 : goal.returns-else-not-is_mark-2
returns-else-not-is_mark-2 c =
    braces_take c.args.text.now c.args.tokens.now c.args.at c.args.kept.now c.elements.new.kept c.in-Ok.found c.in-Ok.brace (sym c.if-not-is_mark.ensures.is) c.in-Ok.ensures (sym c.if-not-is_mark-2.ensures.is)
    (omega (arith, mark_within c.args.text.now c.args.tokens.now m.CloseBrace c.in-Ok.brace (sym c.if-not-is_mark-2.ensures.is)))

pub returns-in-Err : goal.returns-in-Err
returns-in-Err c =
    fails_along c.args.text.now c.args.tokens.now c.in-Err.stop (chosens_with (level 64) (words_at c.args.text.now c.args.tokens.now (c.args.at + 1))) _ (λ f h. inside_fails c.args.text.now c.args.tokens.now c.args.at f (sym c.if-not-is_mark.ensures.is) h) c.in-Err.ensures
