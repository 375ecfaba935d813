use Rattle.std.proofs.Common.{[], subst, sym}
use Rattle.trail.specs.inner.Kept.{AreMarked}
use Rattle.trail.proofs.SinceLaws.{marked}
use Rattle.trail.proofs.trail.Trail.since.Goals as goal

pub first_of-requires-clause-marked : goal.first_of-requires-clause-marked
first_of-requires-clause-marked c =
    subst AreMarked (sym c.deref.ensures.value) (marked c.self.inside.shape [] 0 c.self.inside.slots.items c.self.inside.level c.self.invariant.saved c.self.invariant.entries)
