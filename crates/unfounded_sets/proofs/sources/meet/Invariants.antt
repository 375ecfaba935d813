use Rattle.std.proofs.Common.{◌≡◌}
use Rattle.unfounded_sets.proofs.sources.meet.Given as goal

abbrev pub invariant-loop-place : goal.invariant-loop-place
invariant-loop-place l = l.sources.is_checked ≡ l.fn.sources.is_checked
