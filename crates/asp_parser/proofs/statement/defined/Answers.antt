use Rattle.std.proofs.Common.{◌+◌, ◌∙◌, length, map, drop, sym, ap, subst, arith}
use Rattle.grammar.specs.declared.mark.Mark.TheVariants as m
use Rattle.grammar.specs.Check.{first_of, bad_terms}
use Rattle.theory_grammar.proofs.Loops.{mark_within}
use Rattle.asp_parser.specs.declared.statement.Draft.TheVariants as draft
use Rattle.asp_parser.specs.StatementState.{Takes, constant_class}
use Rattle.grammar.specs.Word.{words_at}
use Rattle.grammar.specs.Reading.{term_at}
use Rattle.theory_grammar.proofs.TermReads.{fails_along}
use Rattle.asp_parser.proofs.ConstantReads.{constant_unequal, constant_term_fails, constant_open, constant_take, rest_all}
use Rattle.asp_parser.proofs.statement.defined.Goals as goal

pub returns-then-not-is_mark : goal.returns-then-not-is_mark
returns-then-not-is_mark c = (constant_unequal c.args.text.now c.args.tokens.now c.args.at _ c.requires.begins c.requires.word (sym c.if-not-is_mark.ensures.is), omega (arith, c.requires.at))

pub returns-in-Err : goal.returns-in-Err
returns-in-Err c =
    fails_along c.args.text.now c.args.tokens.now c.in-Err.stop (term_at 64 (words_at c.args.text.now c.args.tokens.now (c.args.at + 3))) _
    (λ f h. constant_term_fails c.args.text.now c.args.tokens.now c.args.at _ c.requires.begins c.requires.word (sym c.if-not-is_mark.ensures.is) f h) c.in-Err.ensures

pub returns-then-not-is_mark-2 : goal.returns-then-not-is_mark-2
returns-then-not-is_mark-2 c =
    (constant_open c.args.text.now c.args.tokens.now c.args.at _ c.requires.begins c.requires.word (sym c.if-not-is_mark.ensures.is) c.in-Ok.ensures.form c.in-Ok.read.next c.in-Ok.ensures.is (sym c.if-not-is_mark-2.ensures.is), c.in-Ok.ensures.within)

pub returns-in-Ok-from_slice : goal.returns-in-Ok-from_slice
returns-in-Ok-from_slice c =
    let old = c.args.kept.now in
    subst (λ name. Takes constant_class c.args.text.now c.args.tokens.now c.args.at old (record { seen = c.judged_term.new.seen; failing = c.sooner_places-kept.result }) (draft.Constant name c.in-Ok.read.term) (c.in-Ok.read.next + 1))
    (sym (c.in-Ok-from_slice.ensures ∙ c.bytes_at.ensures))
    (constant_take c.args.text.now c.args.tokens.now c.args.at _ c.requires.begins c.requires.word (sym c.if-not-is_mark.ensures.is) old c.judged_term.new.seen c.sooner_places-kept.result c.in-Ok.read.term c.in-Ok.read.shape c.in-Ok.read.next c.in-Ok.ensures
    (sym c.if-not-is_mark-2.ensures.is) (omega (arith, mark_within c.args.text.now c.args.tokens.now m.Dot c.in-Ok.read.next (sym c.if-not-is_mark-2.ensures.is)))
    (c.sooner_places-kept.ensures ∙ ap (λ z. first_of old.failing (bad_terms (map (λ p. p.at) z))) (rest_all c.items.result.now c.len-before.result) ∙ ap (λ n. first_of old.failing (bad_terms (map (λ p. p.at) (drop n c.items.result.now)))) c.len-before.ensures
    ∙ ap (λ z. first_of old.failing (bad_terms (map (λ p. p.at) (drop (length old.seen.places) z)))) c.items.ensures))
