use Rattle.variable_safety.specs.inner.Occurring.{element_read}
use Rattle.safety_meaning.specs.Failures.{atoms_of_element}
use Rattle.safety.proofs.Answering.{answers_more}
use Rattle.safety.proofs.conditions.in_elements.Goals as goal

pub loop-element-preserved : goal.loop-element-preserved
loop-element-preserved c =
    answers_more c.args.ways.now.table.keys c.args.flags.now atoms_of_element element_read c.args.elements.now c.loop-element.element-index c.element-item.result c.args.found.now
    c.loop-element.found c.in_element.new.found c.element-item.is c.loop-element-test.true c.loop-element.invariant c.in_ok-in_element.ensures
