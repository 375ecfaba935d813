use Rattle.std.proofs.Common.{◌+◌, ◌∙◌, ◌++◌, ◌∷◌, [], sym, ap}
use Rattle.grammar.specs.Word.{words_at}
use Rattle.grammar.specs.Reading.{level}
use Rattle.grammar.specs.StatementReading.{chosen_with}
use Rattle.theory_grammar.proofs.TermReads.{fails_along}
use Rattle.asp_parser.proofs.ChoiceReads.{chosens_start, chosens_more, chosens_fail, chosens_done, first_chosen_fails}
use Rattle.asp_parser.proofs.choice.chosens.Goals as goal

pub turns-init : goal.turns-init
turns-init c =
    chosens_start c.args.text.now c.args.tokens.now c.args.at c.args.kept.now c.chosen.new.kept c.in-Ok.read.0 c.in-Ok.read.1 c.push.new.self c.in-Ok.ensures (c.in-Ok-push.ensures.ok ∙ ap (λ z. z ++ c.in-Ok.read.0 ∷ []) c.new-found.ensures)

pub turns-preserved : goal.turns-preserved
turns-preserved c =
    chosens_more c.args.text.now c.args.tokens.now c.args.at c.args.kept.now c.turns.kept c.chosen-in-turns.new.kept c.turns.found c.turns.next c.in-Ok-chosen.item c.in-Ok-chosen.after c.push-in-Ok-chosen.new.self c.turns.invariant
    (sym c.turns-test.ensures.is) c.in-Ok-chosen.ensures c.in-Ok-push-2.ensures.ok

pub returns-in-Err : goal.returns-in-Err
returns-in-Err c =
    fails_along c.args.text.now c.args.tokens.now c.in-Err.stop (chosen_with (level 64) (words_at c.args.text.now c.args.tokens.now c.args.at)) _ (λ f h. first_chosen_fails c.args.text.now c.args.tokens.now c.args.at f h) c.in-Err.ensures

pub returns-in-Err-chosen : goal.returns-in-Err-chosen
returns-in-Err-chosen c =
    fails_along c.args.text.now c.args.tokens.now c.in-Err-chosen.stop (chosen_with (level 64) (words_at c.args.text.now c.args.tokens.now (c.turns.next + 1))) _
    (λ f h. chosens_fail c.args.text.now c.args.tokens.now c.args.at c.args.kept.now c.turns.kept c.turns.found c.turns.next f c.turns.invariant (sym c.turns-test.ensures.is) h) c.in-Err-chosen.ensures

pub returns : goal.returns
returns c = chosens_done c.args.text.now c.args.tokens.now c.args.at c.args.kept.now c.turns.kept c.turns.found c.turns.next c.turns.invariant (sym c.turns-test.ensures.is)
