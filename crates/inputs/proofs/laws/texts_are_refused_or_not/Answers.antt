use Rattle.std.proofs.Common.{◌∙◌, subst}
use Rattle.std.specs.List.{AllByRecursion}
use Rattle.std.proofs.lemmas.List.{take_all}
use Rattle.text_laws.specs.Answered.{HasAnswer}
use Rattle.inputs.proofs.SomeTexts.{all_more, program_or}
use Rattle.inputs.proofs.laws.texts_are_refused_or_not.Goals as goal

pub loop-text-preserved : goal.loop-text-preserved
loop-text-preserved c =
    all_more HasAnswer c.args.texts.now c.loop-text.text-index c.text-item.result c.loop-text-test.true c.loop-text.invariant
    (subst HasAnswer (c.items.ensures ∙ c.text-item.is) c.every_text_has_an_answer.ensures)

pub returns : goal.returns
returns c = λ names same.
    program_or names c.args.texts.now same
    (subst (AllByRecursion HasAnswer) (take_all c.loop-text.text-index c.args.texts.now c.loop-text-test.false) c.loop-text.invariant)
