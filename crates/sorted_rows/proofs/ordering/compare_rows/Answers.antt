use Rattle.std.proofs.Common.{◌∙◌, arith}
use Rattle.program_meaning.proofs.TupleSets.{ended}
use Rattle.sorted_rows.specs.Orders.{value_order}
use Rattle.sorted_rows.proofs.ordering.compare_rows.Goals as goal

pub returns : goal.returns
returns c =
    c.cmp.ensures
    ∙ ended (value_order c.args.symbols.now) c.args.left.now c.args.right.now c.loop-place.place (omega (arith, c.loop-place-test.false)) (omega (arith, c.loop-place.auto.place-end))
    c.loop-place.invariant.within c.loop-place.invariant.rest
