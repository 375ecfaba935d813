use Rattle.std.proofs.Common.{[]}
use Rattle.rewriting.specs.Rewritten as spec
use Rattle.rewriting.proofs.Steps.{becomes_more}
use Rattle.rewriting.proofs.rules.elements.Goals as goal

pub loop-one-preserved : goal.loop-one-preserved
loop-one-preserved c =
    becomes_more spec.choice_element_made c.args.old.now c.loop-one.one-index c.one-item.result c.args.walk.now.next c.args.walk.now c.loop-one.walk
    c.element.new.walk [] [] [] c.loop-one.done c.push.new.self c.in_ok-element.field-0 c.one-item.is
    c.loop-one-test.true c.loop-one.invariant c.in_ok-element.ensures c.in_ok-push.ensures.ok
