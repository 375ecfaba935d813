use Rattle.std.proofs.Common.{◌≤◌, arith}
use Rattle.trail.proofs.KeptLaws.{trail_raise}
use Rattle.trail.proofs.trail.Trail.open_level.Goals as goal

pub invariant_of-self : goal.invariant_of-self
invariant_of-self c =
    let le : c.self.inside.level ≤ c.in-Some.level = omega (arith, c.in-Some.ensures) in
    trail_raise c.self.inside.shape c.self.inside.level c.in-Some.level c.self.inside.slots.items c.self.inside.cells c.self.inside.orders.variables le c.self.invariant
