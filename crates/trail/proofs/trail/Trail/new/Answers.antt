use Rattle.trail.proofs.KeptLaws.{trail_new}
use Rattle.trail.proofs.trail.Trail.new.Goals as goal

pub invariant_of-result : goal.invariant_of-result
invariant_of-result c =
    let e = c.in_ok-cells.ensures in
    rw (c.new-3.ensures.items, c.in_ok-orders.ensures) (trail_new c.args.shape c.in_ok-cells.cells e.counts e.truths e.pairs e.marks)
