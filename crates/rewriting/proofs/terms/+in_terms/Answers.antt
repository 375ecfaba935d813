use Rattle.rewriting.specs.Rewritten as spec
use Rattle.rewriting.proofs.Steps.{becomes_more_by, becomes_interval}
use Rattle.rewriting.proofs.terms.+in_terms.Goals as goal

pub arguments-loop-arg-preserved : goal.arguments-loop-arg-preserved
arguments-loop-arg-preserved t c =
    becomes_more_by (λ (w : spec.Ways). w.argument) spec.ways c.args.args.now c.loop-arg.arg-index c.arg-item.result c.args.walk.now.next
    c.args.walk.now c.loop-arg.walk c.argument.new.walk c.args.added.now c.loop-arg.added c.argument.new.added c.loop-arg.done c.push.new.self
    c.in_ok-argument.field-0 c.arg-item.is c.loop-arg-test.true c.loop-arg.invariant c.in_ok-argument.ensures c.in_ok-push.ensures.ok

pub parts_of-loop-one-preserved : goal.parts_of-loop-one-preserved
parts_of-loop-one-preserved t c =
    becomes_more_by spec.part_way spec.ways_in c.args.parts.now c.loop-one.one-index c.one-item.result c.args.walk.now.next
    c.args.walk.now c.loop-one.walk c.part_of.new.walk c.args.added.now c.loop-one.added c.part_of.new.added c.loop-one.done c.push.new.self
    c.in_ok-part_of.field-0 c.one-item.is c.loop-one-test.true c.loop-one.invariant c.in_ok-part_of.ensures c.in_ok-push.ensures.ok

pub interval_variable-returns : goal.interval_variable-returns
interval_variable-returns t c =
    becomes_interval (spec.term_made c.args.old.now) c.args.walk.now c.take.new.self c.see.new.self c.term.new.walk c.args.added.now
    c.push.new.self c.term.new.added c.set.new.self c.len-place.result c.in_ok-number.number c.equation.result c.in_ok-interval.interval
    c.equation-2.result c.in_ok-number.ensures.number c.in_ok-number.ensures.next c.in_ok-number.ensures.sights c.in_ok-see.ensures.next
    c.in_ok-see.ensures.sights c.len-place.ensures c.in_ok-push.ensures.ok c.in_ok-interval.ensures c.equation-2.ensures c.set.ensures
