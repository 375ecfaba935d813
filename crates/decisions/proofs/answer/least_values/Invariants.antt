use Rattle.std.proofs.Common.{◌≡◌, map}
use Rattle.std.specs.List.{range_with_len}
use Rattle.trail.specs.Assignment.{lower_on}
use Rattle.decisions.proofs.answer.least_values.Given as goal

abbrev pub invariant-loop-at : goal.invariant-loop-at
invariant-loop-at l = l.values ≡ map (λ x. lower_on l.trail x) (range_with_len 1 l.at)
