use Rattle.std.proofs.Common.{◌≡◌, ◌+◌, ◌||◌, ℕ, drop, length}
use Rattle.ground_parts.specs.inner.Totals.{names, set_flags, flag_of, HavePlaces}
use Rattle.ground_parts.proofs.totals.mark_linear.Given as goal

abbrev pub invariant-loop-variable : goal.invariant-loop-variable
invariant-loop-variable l = record {
  left : HavePlaces (length l.seen) (drop l.variable-index l.variable-items);
  so_far : (x : ℕ) → (names (drop l.variable-index l.variable-items) x || flag_of l.seen x) ≡ (names l.variable-items x || flag_of l.initial.seen x);
  counted : set_flags l.seen ≡ set_flags l.initial.seen + l.count;
}
