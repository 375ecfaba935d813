use Rattle.std.proofs.Common.{◌≡◌, ◌++◌, take}
use Rattle.unfounded_sets.specs.inner.Open.{open_rules}
use Rattle.unfounded_sets.proofs.founded.add_open.Given as goal

abbrev pub invariant-loop-support : goal.invariant-loop-support
invariant-loop-support l = l.rules ≡ l.fn.rules ++ open_rules l.trail l.bodies (take l.support-index l.supports)
