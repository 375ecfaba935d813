use Rattle.std.proofs.Common.{w32, to_z, of_z}
use Rattle.trail.proofs.KeptLaws.{pairs_more}
use Rattle.trail.proofs.cells.pairs_of.Goals as goal

pub loop-preserved : goal.loop-preserved
loop-preserved c = pairs_more c.loop.counter (to_z w32 (of_z w32 c.args.min)) (to_z w32 (of_z w32 c.args.max)) c.loop.pairs.items c.push.new.self.items c.push-in-loop.new.self.items c.loop.invariant c.in_ok-push.ensures.items c.in_ok-push-2.ensures.items
