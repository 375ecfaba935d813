use Rattle.std.proofs.Common.{◌+◌, sym, arith}
use Rattle.grammar.specs.declared.mark.Mark.TheVariants as m
use Rattle.grammar.specs.Word.{words_at}
use Rattle.grammar.specs.Reading.{level}
use Rattle.grammar.specs.StatementReading.{body_with}
use Rattle.theory_grammar.proofs.TermReads.{fails_along}
use Rattle.theory_grammar.proofs.Loops.{mark_within}
use Rattle.asp_parser.proofs.StatementReads.{constraint_take, constraint_fails, constraint_open}
use Rattle.asp_parser.proofs.statement.constraint.Goals as goal

pub returns-then-not-is_mark : goal.returns-then-not-is_mark
returns-then-not-is_mark c =
    (constraint_open c.args.text.now c.args.tokens.now c.args.at c.args.kept.now c.body.new.kept c.in-Ok.literals c.in-Ok.dot c.requires.arrow c.in-Ok.ensures (sym c.if-not-is_mark.ensures.is), c.in-Ok.ensures.within)

pub returns-else-not-is_mark : goal.returns-else-not-is_mark
returns-else-not-is_mark c =
    constraint_take c.args.text.now c.args.tokens.now c.args.at c.args.kept.now c.body.new.kept c.in-Ok.literals c.in-Ok.dot c.requires.arrow c.in-Ok.ensures (sym c.if-not-is_mark.ensures.is)
    (omega (arith, mark_within c.args.text.now c.args.tokens.now m.Dot c.in-Ok.dot (sym c.if-not-is_mark.ensures.is)))

pub returns-in-Err : goal.returns-in-Err
returns-in-Err c =
    fails_along c.args.text.now c.args.tokens.now c.in-Err.stop (body_with (level 64) (words_at c.args.text.now c.args.tokens.now (c.args.at + 1))) _ (λ f h. constraint_fails c.args.text.now c.args.tokens.now c.args.at f c.requires.arrow h) c.in-Err.ensures
