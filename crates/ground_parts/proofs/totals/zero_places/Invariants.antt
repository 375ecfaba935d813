use Rattle.std.proofs.Common.{◌≡◌, ℕ, cond, pos, drop, length}
use Rattle.ground_model.specs.Sound.{occurs, first_places}
use Rattle.ground_parts.specs.inner.Totals.{sum_at, AllHavePlaces}
use Rattle.ground_parts.proofs.totals.zero_places.Given as goal

abbrev pub invariant-loop-place : goal.invariant-loop-place
invariant-loop-place l = record {
  left : AllHavePlaces (length l.sums) (drop l.place-index l.places);
  so_far : (x : ℕ) → cond (occurs (first_places (drop l.place-index l.places)) x) (pos 0) (sum_at l.sums x) ≡ cond (occurs (first_places l.places) x) (pos 0) (sum_at l.initial.sums x);
}
