use Rattle.rewriting.specs.Rewritten as spec
use Rattle.rewriting.proofs.Steps.{becomes_more}
use Rattle.rewriting.proofs.literals.literals.Goals as goal

pub loop-one-preserved : goal.loop-one-preserved
loop-one-preserved c =
    becomes_more spec.literal_made c.args.old.now c.loop-one.one-index c.one-item.result c.args.walk.now.next c.args.walk.now c.loop-one.walk
    c.literal.new.walk c.args.added.now c.loop-one.added c.literal.new.added c.loop-one.done c.push.new.self c.in_ok-literal.field-0 c.one-item.is
    c.loop-one-test.true c.loop-one.invariant c.in_ok-literal.ensures c.in_ok-push.ensures.ok
