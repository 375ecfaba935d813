use Rattle.std.proofs.Common.{◌≡◌, ◌≤◌, ℕ}
use Rattle.trail.specs.Assignment.{lower_on, upper_on}
use Rattle.decisions.proofs.scan.open_variable.Given as goal

abbrev pub invariant-loop-at : goal.invariant-loop-at
invariant-loop-at l = (x : ℕ) → 1 ≤ x → x ≤ l.at → lower_on l.trail x ≡ upper_on l.trail x
