use Rattle.std.proofs.Common.{refl, subst, ◌+◌}
use Rattle.grammar.specs.Word.{words_at}
use Rattle.grammar.specs.Reading.{term_at}
use Rattle.theory_grammar.specs.State.{Reads}
use Rattle.theory_grammar.specs.TheoryState.{judged_class}
use Rattle.theory_grammar.proofs.PartReads.{compared_read, compared_fails}
use Rattle.theory_grammar.proofs.TermReads.{fails_along}
use Rattle.theory_grammar.proofs.comparison.compared.Goals as goal

pub returns-in-Ok : goal.returns-in-Ok
returns-in-Ok c =
    compared_read c.args.text.now c.args.tokens.now c.args.free c.args.rel c.args.at c.args.seen.now c.judged_term.new.seen c.in-Ok.read.term _ c.in-Ok.read.shape c.in-Ok.read.next c.requires.rel
    (subst (λ free. Reads (judged_class free) c.args.text.now c.args.tokens.now (c.args.at + 1) c.args.seen.now c.judged_term.new.seen c.in-Ok.read.term c.in-Ok.read.shape c.in-Ok.read.next) c.is_free.ensures c.in-Ok.ensures) refl

pub returns-in-Err : goal.returns-in-Err
returns-in-Err c =
    fails_along c.args.text.now c.args.tokens.now c.in-Err.stop (term_at 64 (words_at c.args.text.now c.args.tokens.now (c.args.at + 1))) _
    (λ f h. compared_fails c.args.text.now c.args.tokens.now c.args.rel c.args.at f c.requires.rel h) c.in-Err.ensures
