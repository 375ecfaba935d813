use Rattle.std.proofs.Common.{◌+◌, ◌∙◌, ◌++◌, ◌∷◌, [], sym, ap}
use Rattle.grammar.specs.Word.{words_at}
use Rattle.grammar.specs.Reading.{level}
use Rattle.grammar.specs.TheoryReading.{condition_with}
use Rattle.theory_grammar.proofs.RowReads.{conditions_start, conditions_more, conditions_fail, conditions_done, first_condition_fails}
use Rattle.theory_grammar.proofs.TermReads.{fails_along}
use Rattle.theory_grammar.proofs.condition.conditions.Goals as goal

pub turns-init : goal.turns-init
turns-init c =
    conditions_start c.args.text.now c.args.tokens.now c.args.at c.args.seen.now c.condition.new.seen c.in-Ok.read.0 c.in-Ok.read.1 c.push.new.self c.in-Ok.ensures (c.in-Ok-push.ensures.ok ∙ ap (λ z. z ++ c.in-Ok.read.0 ∷ []) c.new-found.ensures)

pub turns-preserved : goal.turns-preserved
turns-preserved c =
    conditions_more c.args.text.now c.args.tokens.now c.args.at c.in-Ok.read.1 c.args.seen.now c.turns.seen c.condition-in-turns.new.seen c.turns.found c.turns.next c.in-Ok-condition.item c.in-Ok-condition.after c.push-in-Ok-condition.new.self c.turns.invariant
    (sym c.turns-test.ensures.is) c.in-Ok-condition.ensures c.in-Ok-push-2.ensures.ok

pub returns-in-Err : goal.returns-in-Err
returns-in-Err c =
    fails_along c.args.text.now c.args.tokens.now c.in-Err.stop (condition_with (level 64) (words_at c.args.text.now c.args.tokens.now c.args.at)) _
    (λ f h. first_condition_fails c.args.text.now c.args.tokens.now c.args.at f h) c.in-Err.ensures

pub returns-in-Err-condition : goal.returns-in-Err-condition
returns-in-Err-condition c =
    fails_along c.args.text.now c.args.tokens.now c.in-Err-condition.stop (condition_with (level 64) (words_at c.args.text.now c.args.tokens.now (c.turns.next + 1))) _
    (λ f h. conditions_fail c.args.text.now c.args.tokens.now c.args.at c.in-Ok.read.1 c.args.seen.now c.turns.seen c.turns.found c.turns.next f c.turns.invariant (sym c.turns-test.ensures.is) h) c.in-Err-condition.ensures

pub returns : goal.returns
returns c =
    conditions_done c.args.text.now c.args.tokens.now c.args.at c.in-Ok.read.1 c.args.seen.now c.turns.seen c.turns.found c.turns.next c.turns.invariant (sym c.turns-test.ensures.is)
