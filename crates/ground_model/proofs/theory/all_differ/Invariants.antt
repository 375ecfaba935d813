use Rattle.std.proofs.Common.{◌≡◌, ◌≤◌, ℤ, true, drop, length}
use Rattle.std.specs.List.{list_any}
use Rattle.std.specs.Ordering.{int_eq}
use Rattle.ground_model.specs.Spans.{differ_by_value}
use Rattle.ground_model.specs.Truth.{all_pairs}
use Rattle.ground_model.proofs.theory.all_differ.Given as goal

abbrev pub invariant-loop-at : goal.invariant-loop-at
invariant-loop-at l = record {
  within : l.at ≤ length l.spans;
  members : (z : ℤ) → list_any (int_eq z) l.later.keys ≡ list_any (λ span. int_eq z span.0) (drop l.at l.spans);
  so_far : all_pairs differ_by_value (drop l.at l.spans) ≡ true;
}

abbrev pub decreases-loop-at : goal.decreases-loop-at
decreases-loop-at l = l.at
