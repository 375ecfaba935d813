use Rattle.std.proofs.Common.{◌≡◌}
use Rattle.unfounded_sets.proofs.sources.repair.Given as goal

abbrev pub invariant-loop-taken : goal.invariant-loop-taken
invariant-loop-taken l = l.sources.is_checked ≡ l.fn.sources.is_checked
