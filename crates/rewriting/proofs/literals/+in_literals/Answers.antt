use Rattle.std.proofs.Common.{[]}
use Rattle.rewriting.specs.Rewritten as spec
use Rattle.rewriting.proofs.Steps.{becomes_more}
use Rattle.rewriting.proofs.literals.+in_literals.Goals as goal

pub condition-loop-one-preserved : goal.condition-loop-one-preserved
condition-loop-one-preserved t c =
    becomes_more spec.literal_made c.args.old.now c.loop-one.one-index c.one-item.result c.args.walk.now.next c.args.walk.now c.loop-one.walk
    c.literal.new.walk c.args.added.now c.loop-one.added c.literal.new.added c.loop-one.done c.push.new.self c.in_ok-literal.field-0 c.one-item.is
    c.loop-one-test.true c.loop-one.invariant c.in_ok-literal.ensures c.in_ok-push.ensures.ok

pub elements-loop-one-preserved : goal.elements-loop-one-preserved
elements-loop-one-preserved t c =
    becomes_more spec.element_made c.args.old.now c.loop-one.one-index c.one-item.result c.args.walk.now.next c.args.walk.now c.loop-one.walk
    c.element.new.walk [] [] [] c.loop-one.done c.push.new.self c.in_ok-element.field-0 c.one-item.is
    c.loop-one-test.true c.loop-one.invariant c.in_ok-element.ensures c.in_ok-push.ensures.ok
