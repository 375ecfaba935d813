use Rattle.std.proofs.Common.{◌≡◌, drop}
use Rattle.ground_model.specs.Sound.{are_different}
use Rattle.ground_parts.proofs.different.differ_each_from_each.Given as goal

abbrev pub invariant-loop-at : goal.invariant-loop-at
invariant-loop-at l = are_different (drop l.at l.places) ≡ are_different l.places
