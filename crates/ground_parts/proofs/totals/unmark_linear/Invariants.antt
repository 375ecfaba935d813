use Rattle.std.proofs.Common.{◌≡◌, ◌&&◌, not, ℕ, drop, length}
use Rattle.ground_parts.specs.inner.Totals.{names, flag_of, HavePlaces}
use Rattle.ground_parts.proofs.totals.unmark_linear.Given as goal

abbrev pub invariant-loop-variable : goal.invariant-loop-variable
invariant-loop-variable l = record {
  left : HavePlaces (length l.seen) (drop l.variable-index l.variable-items);
  so_far : (x : ℕ) → (not (names (drop l.variable-index l.variable-items) x) && flag_of l.seen x) ≡ (not (names l.variable-items x) && flag_of l.initial.seen x);
}
