use Rattle.std.proofs.Common.{arith}
use Rattle.sum_propagator.proofs.Few.{few_items}
use Rattle.sum_propagator.proofs.sum.few.Goals as goal

pub returns : goal.returns
returns c = few_items c.args.number c.args.items.now c.requires (λ k d lt. c.loop-item.invariant k d (omega arith))
