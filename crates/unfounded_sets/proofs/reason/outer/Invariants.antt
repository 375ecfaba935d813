use Rattle.std.proofs.Common.{◌≡◌, take}
use Rattle.unfounded_sets.specs.inner.Outer.{is_left, outer_bodies}
use Rattle.unfounded_sets.proofs.reason.outer.Given as goal

abbrev pub invariant-loop-support : goal.invariant-loop-support
invariant-loop-support l = l.found.items ≡ outer_bodies l.bodies (is_left l.given) (take l.support-index l.supports)
