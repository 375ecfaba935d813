use Rattle.std.proofs.Common.{sym, ap, arith}
use Rattle.grammar.specs.declared.mark.Mark.TheVariants as m
use Rattle.grammar.specs.Reading.{starts_next}
use Rattle.grammar.specs.TheoryReading.{is_name}
use Rattle.theory_grammar.proofs.Loops.{mark_within}
use Rattle.theory_grammar.proofs.TheoryReads.{and_absent, name_absent}
use Rattle.theory_grammar.proofs.theory.atom_parts.Goals as goal

pub returns-then-not-is_mark : goal.returns-then-not-is_mark
returns-then-not-is_mark c = (and_absent c.args.text.now c.args.tokens.now c.args.at (sym c.if-not-is_mark.ensures.is), c.requires.at)

pub returns-in-None : goal.returns-in-None
returns-in-None c =
    (name_absent c.args.text.now c.args.tokens.now c.args.at (sym c.if-not-is_mark.ensures.is) (ap (starts_next is_name) c.in-None.ensures.end), omega (arith, mark_within c.args.text.now c.args.tokens.now m.And c.args.at (sym c.if-not-is_mark.ensures.is)))
