use Rattle.std.proofs.Common.{rules}
use Rattle.trail_bounds.proofs.Times.{rest_within}
use Rattle.trail_bounds.proofs.item.swing.Goals as goal

pub returns : goal.returns
returns c = rest_within c.args.c c.args.range.low c.args.range.high c.width_of.result _ c.width_of.ensures.value (search rules)
