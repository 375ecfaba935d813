use Rattle.std.proofs.Common.{◌+◌, ◌∙◌, refl, sym, ap, arith}
use Rattle.grammar.specs.Word.{words_at}
use Rattle.grammar.specs.Reading.{level}
use Rattle.grammar.specs.TheoryReading.{elements_with, guard_with}
use Rattle.grammar.specs.StatementTree.{theory_name}
use Rattle.theory_grammar.proofs.TheoryReads.{open_absent, elements_fail, close_absent, guard_fail, theory_read}
use Rattle.theory_grammar.proofs.TermReads.{fails_along}
use Rattle.theory_grammar.proofs.theory.behind_name.Goals as goal

pub returns-then-not-is_mark : goal.returns-then-not-is_mark
returns-then-not-is_mark c = (open_absent c.args.text.now c.args.tokens.now c.args.at _ c.requires.begins c.requires.word (sym c.if-not-is_mark.ensures.is), omega (arith, c.requires.at))

pub returns-in-Err : goal.returns-in-Err
returns-in-Err c =
    fails_along c.args.text.now c.args.tokens.now c.in-Err.stop (elements_with (level 64) (words_at c.args.text.now c.args.tokens.now (c.args.at + 3))) _
    (λ f h. elements_fail c.args.text.now c.args.tokens.now c.args.at _ c.requires.begins c.requires.word (sym c.if-not-is_mark.ensures.is) f h) c.in-Err.ensures

pub returns-then-not-is_mark-2 : goal.returns-then-not-is_mark-2
returns-then-not-is_mark-2 c =
    (close_absent c.args.text.now c.args.tokens.now c.args.at _ c.requires.begins c.requires.word (sym c.if-not-is_mark.ensures.is) c.in-Ok.ensures.form c.in-Ok.read.1 c.in-Ok.ensures.is (sym c.if-not-is_mark-2.ensures.is), c.in-Ok.ensures.within)

pub returns-in-Err-guard : goal.returns-in-Err-guard
returns-in-Err-guard c =
    fails_along c.args.text.now c.args.tokens.now c.in-Err-guard.stop (guard_with (level 64) (words_at c.args.text.now c.args.tokens.now (c.in-Ok.read.1 + 1))) _
    (λ f h. guard_fail c.args.text.now c.args.tokens.now c.args.at _ c.requires.begins c.requires.word (sym c.if-not-is_mark.ensures.is) c.in-Ok.ensures.form c.in-Ok.read.1 c.in-Ok.ensures.is (sym c.if-not-is_mark-2.ensures.is) f h) c.in-Err-guard.ensures

pub returns-in-Ok-guard : goal.returns-in-Ok-guard
returns-in-Ok-guard c =
    theory_read c.args.text.now c.args.tokens.now c.args.at _ c.args.seen.now c.elements.new.seen (record c.elements.new.seen { bad = c.replace-in_elements.new.dest }) c.guard.new.seen c.theory_name-name.result c.in-Ok.read.0 c.in-Ok.read.1
    c.replace-in_elements.result c.in-Ok-guard.guard c.in-Ok-guard.next _ c.requires.begins c.requires.word (sym c.if-not-is_mark.ensures.is) c.requires.bad (c.theory_name-name.ensures ∙ ap theory_name c.bytes_at.ensures) c.in-Ok.ensures
    (sym c.if-not-is_mark-2.ensures.is) c.replace-in_elements.ensures.value (ap (λ b. record c.elements.new.seen { bad = b }) c.replace-in_elements.ensures.after) c.in-Ok-guard.ensures refl
