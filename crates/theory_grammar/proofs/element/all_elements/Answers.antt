use Rattle.std.proofs.Common.{◌+◌, ◌∙◌, ◌++◌, ◌∷◌, [], sym, ap}
use Rattle.grammar.specs.Word.{words_at}
use Rattle.grammar.specs.Check.{places_where}
use Rattle.grammar.specs.Reading.{level}
use Rattle.grammar.specs.TheoryReading.{element_with}
use Rattle.theory_grammar.specs.State.{least}
use Rattle.theory_grammar.proofs.RowReads.{elements_start, elements_more, elements_fail, elements_done, first_element_fails}
use Rattle.theory_grammar.proofs.TermReads.{fails_along}
use Rattle.theory_grammar.proofs.element.all_elements.Goals as goal

pub turns-init : goal.turns-init
turns-init c =
    elements_start c.args.text.now c.args.tokens.now c.args.name c.args.at c.args.seen.now c.element.new.seen c.in-Ok.read.0 c.in-Ok.read.1 c.push.new.self c.in-Ok.ensures
    (c.in-Ok-push.ensures.ok ∙ ap (λ z. z ++ c.in-Ok.read.0 ∷ []) c.new-found.ensures)

pub turns-preserved : goal.turns-preserved
turns-preserved c =
    elements_more c.args.text.now c.args.tokens.now c.args.name c.args.at c.in-Ok.read.1 c.args.seen.now c.turns.seen c.element-in-turns.new.seen c.turns.found c.turns.next c.in-Ok-element.item c.in-Ok-element.after c.push-in-Ok-element.new.self
    c.turns.invariant (sym c.turns-test.ensures.is) c.in-Ok-element.ensures c.in-Ok-push-2.ensures.ok

pub returns-in-Err : goal.returns-in-Err
returns-in-Err c =
    fails_along c.args.text.now c.args.tokens.now c.in-Err.stop (element_with (level 64) (words_at c.args.text.now c.args.tokens.now c.args.at)) _
    (λ f h. first_element_fails c.args.text.now c.args.tokens.now c.args.name c.args.at f h) c.in-Err.ensures

pub returns-in-Err-element : goal.returns-in-Err-element
returns-in-Err-element c =
    fails_along c.args.text.now c.args.tokens.now c.in-Err-element.stop (element_with (level 64) (words_at c.args.text.now c.args.tokens.now (c.turns.next + 1))) _
    (λ f h. elements_fail c.args.text.now c.args.tokens.now c.args.name c.args.at c.in-Ok.read.1 c.args.seen.now c.turns.seen c.turns.found c.turns.next f c.turns.invariant (sym c.turns-test.ensures.is) h) c.in-Err-element.ensures

pub returns : goal.returns
returns c =
    elements_done c.args.text.now c.args.tokens.now c.args.name c.args.at c.in-Ok.read.1 c.args.seen.now c.element.new.seen c.turns.seen c.fail_at.new.self c.in-Ok.read.0 c.turns.found c.turns.next c.in-Ok.ensures c.turns.invariant
    (sym c.turns-test.ensures.is) (c.fail_at.ensures ∙ ap (λ b. record c.turns.seen { bad = least c.turns.seen.bad (places_where b (c.in-Ok.read.1 + 1)) }) c.has_second.ensures)
