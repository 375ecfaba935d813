use Rattle.std.proofs.Common.{length}
use Rattle.ordered_bodies.proofs.Programs.{AreUnderway}
use Rattle.ordered_bodies.proofs.program.ordered_statements.Given as goal

abbrev pub invariant-loop-statement : goal.invariant-loop-statement
invariant-loop-statement l = AreUnderway l.fn.left l.left l.orders l.done

abbrev pub decreases-loop-statement : goal.decreases-loop-statement
decreases-loop-statement l = length l.left
