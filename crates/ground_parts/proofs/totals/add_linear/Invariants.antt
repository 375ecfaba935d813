use Rattle.std.proofs.Common.{◌≡◌, ◌+◌, ◌+ℤ◌, ℕ, drop, length}
use Rattle.ground_model.specs.Sound.{coefficient}
use Rattle.ground_parts.specs.inner.Totals.{sum_at, HavePlaces, AreWithin}
use Rattle.ground_parts.proofs.totals.add_linear.Given as goal

abbrev pub invariant-loop-variable : goal.invariant-loop-variable
invariant-loop-variable l = record {
  left : HavePlaces (length l.sums) (drop l.variable-index l.variable-items);
  so_far : (x : ℕ) → (sum_at l.sums x +ℤ coefficient x (drop l.variable-index l.variable-items)) ≡ (sum_at l.initial.sums x +ℤ coefficient x l.variable-items);
  within : (n : ℕ) → AreWithin n l.initial.sums → AreWithin (n + l.variable-index) l.sums;
}
