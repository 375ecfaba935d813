use Rattle.variable_safety.specs.inner.Noting.{LooseInChoice}
use Rattle.program_meaning.specs.Read.{choice_read}
use Rattle.variable_safety.proofs.Notes.{notes_more}
use Rattle.variable_safety.proofs.noting.note_choices.Goals as goal

pub loop-element-preserved : goal.loop-element-preserved
loop-element-preserved c =
    notes_more (LooseInChoice c.args.given.now.listed) choice_read c.args.elements.now c.loop-element.element-index c.element-item.result c.args.found.now c.loop-element.found
    c.note_choice.new.found c.element-item.is c.loop-element-test.true c.loop-element.invariant c.in_ok-note_choice.ensures
