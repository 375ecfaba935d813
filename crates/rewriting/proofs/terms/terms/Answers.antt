use Rattle.rewriting.specs.Rewritten as spec
use Rattle.rewriting.proofs.Steps.{becomes_more}
use Rattle.rewriting.proofs.terms.terms.Goals as goal

pub loop-one-preserved : goal.loop-one-preserved
loop-one-preserved c =
    becomes_more spec.term_made c.args.old.now c.loop-one.one-index c.one-item.result c.args.walk.now.next c.args.walk.now c.loop-one.walk
    c.term.new.walk c.args.added.now c.loop-one.added c.term.new.added c.loop-one.done c.push.new.self c.in_ok-term.field-0 c.one-item.is
    c.loop-one-test.true c.loop-one.invariant c.in_ok-term.ensures c.in_ok-push.ensures.ok
