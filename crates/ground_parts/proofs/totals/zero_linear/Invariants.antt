use Rattle.std.proofs.Common.{◌≡◌, ℕ, cond, pos, drop, length}
use Rattle.ground_parts.specs.inner.Totals.{names, sum_at, HavePlaces}
use Rattle.ground_parts.proofs.totals.zero_linear.Given as goal

abbrev pub invariant-loop-variable : goal.invariant-loop-variable
invariant-loop-variable l = record {
  left : HavePlaces (length l.sums) (drop l.variable-index l.variable-items);
  so_far : (x : ℕ) → cond (names (drop l.variable-index l.variable-items) x) (pos 0) (sum_at l.sums x) ≡ cond (names l.variable-items x) (pos 0) (sum_at l.initial.sums x);
}
