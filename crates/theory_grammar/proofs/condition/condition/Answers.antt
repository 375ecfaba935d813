use Rattle.std.proofs.Common.{◌+◌, refl, sym}
use Rattle.grammar.specs.Word.{words_at}
use Rattle.grammar.specs.Reading.{level}
use Rattle.grammar.specs.TheoryReading.{atom_with}
use Rattle.theory_grammar.proofs.ConditionReads.{denied_read, denied_fails}
use Rattle.theory_grammar.proofs.TermReads.{fails_along}
use Rattle.theory_grammar.proofs.condition.condition.Goals as goal

pub returns-in-Ok : goal.returns-in-Ok
returns-in-Ok c = denied_read c.args.text.now c.args.tokens.now c.args.at c.args.seen.now c.atom.new.seen c.in-Ok.term _ c.in-Ok.next (sym c.if-not-is_not.ensures) c.in-Ok.ensures refl

pub returns-in-Err : goal.returns-in-Err
returns-in-Err c =
    fails_along c.args.text.now c.args.tokens.now c.in-Err.stop (atom_with (level 64) (words_at c.args.text.now c.args.tokens.now (c.args.at + 1))) _
    (λ f h. denied_fails c.args.text.now c.args.tokens.now c.args.at f (sym c.if-not-is_not.ensures) h) c.in-Err.ensures
