use Rattle.std.proofs.Common.{◌+◌, sym}
use Rattle.grammar.specs.Word.{words_at}
use Rattle.grammar.specs.Reading.{level}
use Rattle.grammar.specs.TheoryReading.{atom_with}
use Rattle.theory_grammar.proofs.TermReads.{fails_along}
use Rattle.asp_parser.proofs.LiteralReads.{not_theory, not_atom, not_atom_fails}
use Rattle.asp_parser.proofs.literal.denied.Goals as goal

pub returns-then-is_mark : goal.returns-then-is_mark
returns-then-is_mark c = not_theory c.args.text.now c.args.tokens.now c.args.at c.args.kept.now c.placed.new.kept c.placed.result c.requires.not (sym c.if-is_mark.ensures.is) c.placed.ensures

pub returns-in-Ok : goal.returns-in-Ok
returns-in-Ok c = not_atom c.args.text.now c.args.tokens.now c.args.at c.args.kept.now c.atom.new.seen c.in-Ok.term c.in-Ok.next c.requires.not (sym c.if-is_mark.ensures.is) c.in-Ok.ensures

pub returns-in-Err : goal.returns-in-Err
returns-in-Err c =
    fails_along c.args.text.now c.args.tokens.now c.in-Err.stop (atom_with (level 64) (words_at c.args.text.now c.args.tokens.now (c.args.at + 1))) _
    (λ f h. not_atom_fails c.args.text.now c.args.tokens.now c.args.at f c.requires.not (sym c.if-is_mark.ensures.is) h) c.in-Err.ensures
