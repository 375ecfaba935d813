use Rattle.std.proofs.Common.{sym, arith}
use Rattle.grammar.specs.declared.mark.Mark.TheVariants as m
use Rattle.theory_grammar.proofs.Loops.{mark_within}
use Rattle.asp_parser.proofs.ShowReads.{show_undivided, show_ended}
use Rattle.asp_parser.proofs.statement.predicate.Goals as goal

pub returns-then-not-is_mark : goal.returns-then-not-is_mark
returns-then-not-is_mark c = λ kept. (show_undivided c.args.text.now c.args.tokens.now c.args.at c.requires.begins _ c.requires.word (sym c.if-not-is_mark.ensures.is), omega (arith, c.requires.at))

pub returns-in-None : goal.returns-in-None
returns-in-None c = λ kept.
    (show_ended c.args.text.now c.args.tokens.now c.args.at c.requires.begins _ c.requires.word (sym c.if-not-is_mark.ensures.is) c.in-None.ensures.end, omega (arith, mark_within c.args.text.now c.args.tokens.now m.Divide _ (sym c.if-not-is_mark.ensures.is)))
