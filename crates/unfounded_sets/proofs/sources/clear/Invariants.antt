use Rattle.std.proofs.Common.{◌≡◌}
use Rattle.unfounded_sets.proofs.sources.clear.Given as goal

abbrev pub invariant-loop-atom : goal.invariant-loop-atom
invariant-loop-atom l = l.sources.is_checked ≡ l.fn.sources.is_checked
