use Rattle.std.proofs.Common.{sym}
use Rattle.grammar.specs.Word.{words_at}
use Rattle.grammar.specs.Reading.{level}
use Rattle.grammar.specs.TheoryReading.{compared_with}
use Rattle.theory_grammar.proofs.PartReads.{guard_none, guard_some, guard_fails}
use Rattle.theory_grammar.proofs.TermReads.{fails_along}
use Rattle.theory_grammar.proofs.comparison.guard.Goals as goal

pub returns-in-Ok : goal.returns-in-Ok
returns-in-Ok c =
    guard_some c.args.text.now c.args.tokens.now c.in-Some.rel c.args.at c.args.seen.now c.compared.new.seen c.in-Ok.guard c.in-Ok.next (sym c.in-Some.ensures.is) c.in-Ok.ensures

pub returns-in-Err : goal.returns-in-Err
returns-in-Err c =
    fails_along c.args.text.now c.args.tokens.now c.in-Err.stop (compared_with (level 64) (words_at c.args.text.now c.args.tokens.now c.args.at)) _
    (λ f h. guard_fails c.args.text.now c.args.tokens.now c.in-Some.rel c.args.at f (sym c.in-Some.ensures.is) h) c.in-Err.ensures

pub returns-in-None : goal.returns-in-None
returns-in-None c = guard_none c.args.text.now c.args.tokens.now c.args.at c.args.seen.now (sym c.in-None.ensures.is) c.requires.at
