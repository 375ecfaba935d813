use Rattle.std.proofs.Common.{◌∙◌, subst}
use Rattle.std.specs.List.{AllByRecursion}
use Rattle.std.proofs.lemmas.List.{take_all}
use Rattle.text_laws.specs.Answered.{HasAnswer}
use Rattle.clingcon_app.proofs.SomeOutcome.{all_more, some_outcome}
use Rattle.clingcon_app.proofs.law.some_outcome.Goals as goal

pub loop-text-preserved : goal.loop-text-preserved
loop-text-preserved c =
    all_more HasAnswer c.args.texts.now c.loop-text.text-index c.text-item.result c.loop-text-test.true c.loop-text.invariant
    (subst HasAnswer (c.items.ensures ∙ c.text-item.is) c.every_text_has_an_answer.ensures)

pub returns : goal.returns
returns c = λ files told.
    some_outcome files c.args.words.now c.args.texts.now told
    (subst (AllByRecursion HasAnswer) (take_all c.loop-text.text-index c.args.texts.now c.loop-text-test.false) c.loop-text.invariant)
