use Rattle.std.proofs.Common.{◌+◌, ap, sym, arith}
use Rattle.grammar.specs.declared.mark.Mark.TheVariants as m
use Rattle.grammar.specs.Reading.{starts_next}
use Rattle.grammar.specs.TheoryReading.{is_name}
use Rattle.theory_grammar.proofs.Loops.{mark_within}
use Rattle.asp_parser.proofs.ShowReads.{show_missing, nothing_take}
use Rattle.asp_parser.proofs.statement.show.Goals as goal

pub returns-then-is_mark : goal.returns-then-is_mark
returns-then-is_mark c = λ kept.
    nothing_take c.args.text.now c.args.tokens.now c.args.at c.requires.begins kept (sym c.if-is_mark.ensures.is) (omega (arith, mark_within c.args.text.now c.args.tokens.now m.Dot (c.args.at + 1) (sym c.if-is_mark.ensures.is)))

pub returns-in-None : goal.returns-in-None
returns-in-None c = λ kept. (show_missing c.args.text.now c.args.tokens.now c.args.at c.requires.begins (ap (starts_next is_name) c.in-None.ensures.end) (sym c.if-is_mark.ensures.is), omega (arith, c.requires.at))
