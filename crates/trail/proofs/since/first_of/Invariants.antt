use Rattle.trail.specs.Assignment.{lits_of}
use Rattle.trail.specs.inner.Kept.{entries_of}
use Rattle.trail.proofs.SinceLaws.{Walks, steps}
use Rattle.trail.proofs.since.first_of.Given as goal

abbrev pub invariant-back : goal.invariant-back
invariant-back l = Walks (lits_of (entries_of l.slots)) l.lit l.first l.mark

abbrev pub decreases-back : goal.decreases-back
decreases-back l = steps l.mark
