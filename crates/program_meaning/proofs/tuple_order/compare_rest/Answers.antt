use Rattle.std.proofs.Common.{◌∙◌, arith}
use Rattle.program_meaning.specs.Said.{id_order}
use Rattle.program_meaning.proofs.TupleSets.{ended}
use Rattle.program_meaning.proofs.tuple_order.compare_rest.Goals as goal

pub returns : goal.returns
returns c =
    c.cmp.ensures
    ∙ ended (id_order c.args.symbols.now) c.args.left.now c.args.right.now c.loop-place.place (omega (arith, c.loop-place-test.false)) (omega (arith, c.loop-place.auto.place-end))
    c.loop-place.invariant.within c.loop-place.invariant.rest
