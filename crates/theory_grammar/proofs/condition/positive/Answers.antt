use Rattle.std.proofs.Common.{false, refl, sym, subst}
use Rattle.grammar.specs.Word.{words_at}
use Rattle.grammar.specs.Reading.{level}
use Rattle.grammar.specs.TheoryReading.{compared_with}
use Rattle.theory_grammar.specs.State.{Reads}
use Rattle.theory_grammar.specs.TheoryState.{judged_class}
use Rattle.theory_grammar.proofs.ConditionReads.{compare_read, right_of_fails, alone_is_read, not_atom_fails, shape_not_atom}
use Rattle.theory_grammar.proofs.TermReads.{fails_along}
use Rattle.theory_grammar.proofs.condition.positive.Goals as goal

pub returns-in-Ok-compared : goal.returns-in-Ok-compared
returns-in-Ok-compared c =
    compare_read c.args.text.now c.args.tokens.now c.args.at c.args.seen.now c.judged_term.new.seen c.compared.new.seen c.in-Ok.left.term c.in-Ok.left.shape c.in-Ok-compared.guard _ c.in-Some.rel c.in-Ok.left.next c.in-Ok-compared.next c.requires.plain
    (sym c.in-Some.ensures.is) c.in-Ok.ensures c.in-Ok-compared.ensures refl

pub returns-in-Err-compared : goal.returns-in-Err-compared
returns-in-Err-compared c =
    fails_along c.args.text.now c.args.tokens.now c.in-Err-compared.stop (compared_with (level 64) (words_at c.args.text.now c.args.tokens.now c.in-Ok.left.next)) _
    (λ f h. right_of_fails c.args.text.now c.args.tokens.now c.args.at c.in-Ok.left.next c.in-Ok.ensures.form c.in-Some.rel f c.requires.plain c.in-Ok.ensures.is (sym c.in-Some.ensures.is) h) c.in-Err-compared.ensures

pub returns-in-Ok-enter : goal.returns-in-Ok-enter
returns-in-Ok-enter c =
    alone_is_read c.args.text.now c.args.tokens.now c.args.at c.args.seen.now c.judged_term.new.seen c.enter.new.self c.in-Ok.left.term _ c.in-Ok.left.next _ c.requires.plain (sym c.in-None.ensures.is)
    (subst (λ s. Reads (judged_class false) c.args.text.now c.args.tokens.now c.args.at c.args.seen.now c.judged_term.new.seen c.in-Ok.left.term s c.in-Ok.left.next) c.in-Atom.is c.in-Ok.ensures) c.len-before.ensures c.in-Ok-enter.ensures refl

pub returns-in_default : goal.returns-in_default
returns-in_default c =
    (not_atom_fails c.args.text.now c.args.tokens.now c.args.at c.in-Ok.left.next c.in-Ok.ensures.form c.requires.plain c.in-Ok.ensures.is (sym c.in-None.ensures.is) (shape_not_atom c.in-Ok.ensures.form c.in-Ok.left.shape c.in-Ok.ensures.shaped c.in_default.not-Atom), c.in-Ok.ensures.within)
