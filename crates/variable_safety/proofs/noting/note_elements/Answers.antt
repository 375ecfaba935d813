use Rattle.variable_safety.specs.inner.Noting.{LooseInElement}
use Rattle.variable_safety.specs.inner.Occurring.{element_read}
use Rattle.variable_safety.proofs.Notes.{notes_more}
use Rattle.variable_safety.proofs.noting.note_elements.Goals as goal

pub loop-element-preserved : goal.loop-element-preserved
loop-element-preserved c =
    notes_more (LooseInElement c.args.given.now.listed) element_read c.args.elements.now c.loop-element.element-index c.element-item.result c.args.found.now c.loop-element.found
    c.note_element.new.found c.element-item.is c.loop-element-test.true c.loop-element.invariant c.in_ok-note_element.ensures
