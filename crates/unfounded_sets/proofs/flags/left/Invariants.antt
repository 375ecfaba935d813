use Rattle.std.proofs.Common.{◌≡◌, ◌-◌}
use Rattle.unfounded_sets.specs.inner.Outer.{left_of}
use Rattle.unfounded_sets.proofs.flags.left.Given as goal

abbrev pub invariant-loop-at : goal.invariant-loop-at
invariant-loop-at l = l.set.items ≡ left_of l.given (l.at - 1)
