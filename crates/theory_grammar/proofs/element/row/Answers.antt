use Rattle.std.proofs.Common.{◌+◌, ◌∙◌, ◌++◌, ◌∷◌, [], sym, ap}
use Rattle.grammar.specs.Word.{words_at}
use Rattle.grammar.specs.Reading.{term_at}
use Rattle.theory_grammar.proofs.RowReads.{places_start, places_more, places_fail, places_done, first_place_fails}
use Rattle.theory_grammar.proofs.TermReads.{fails_along}
use Rattle.theory_grammar.proofs.element.row.Goals as goal

pub turns-init : goal.turns-init
turns-init c =
    places_start c.args.text.now c.args.tokens.now c.args.name c.args.at c.args.seen.now c.place.new.seen c.in-Ok.read.term c.in-Ok.read.shape c.in-Ok.read.next c.push.new.self c.in-Ok.ensures
    (c.in-Ok-push.ensures.ok ∙ ap (λ z. z ++ c.in-Ok.read.term ∷ []) c.new-found.ensures)

pub turns-preserved : goal.turns-preserved
turns-preserved c =
    places_more c.args.text.now c.args.tokens.now c.args.name c.args.at c.in-Ok.read.next c.args.seen.now c.turns.seen c.place-in-turns.new.seen c.turns.found c.turns.next c.in-Ok-place.read.term c.in-Ok-place.read.shape c.in-Ok-place.read.next
    c.push-in-Ok-place.new.self c.turns.invariant (sym c.turns-test.ensures.is) c.in-Ok-place.ensures c.in-Ok-push-2.ensures.ok

pub returns-in-Err : goal.returns-in-Err
returns-in-Err c =
    fails_along c.args.text.now c.args.tokens.now c.in-Err.stop (term_at 64 (words_at c.args.text.now c.args.tokens.now c.args.at)) _
    (λ f h. first_place_fails c.args.text.now c.args.tokens.now c.args.name c.args.at f h) c.in-Err.ensures

pub returns-in-Err-place : goal.returns-in-Err-place
returns-in-Err-place c =
    fails_along c.args.text.now c.args.tokens.now c.in-Err-place.stop (term_at 64 (words_at c.args.text.now c.args.tokens.now (c.turns.next + 1))) _
    (λ f h. places_fail c.args.text.now c.args.tokens.now c.args.name c.args.at c.in-Ok.read.next c.args.seen.now c.turns.seen c.turns.found c.turns.next f c.turns.invariant (sym c.turns-test.ensures.is) h) c.in-Err-place.ensures

pub returns : goal.returns
returns c =
    places_done c.args.text.now c.args.tokens.now c.args.name c.args.at c.in-Ok.read.next c.args.seen.now c.turns.seen c.turns.found c.turns.next c.turns.invariant (sym c.turns-test.ensures.is)
