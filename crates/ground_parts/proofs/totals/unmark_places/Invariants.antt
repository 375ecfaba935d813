use Rattle.std.proofs.Common.{◌≡◌, ◌&&◌, not, ℕ, drop, length}
use Rattle.ground_model.specs.Sound.{occurs, first_places}
use Rattle.ground_parts.specs.inner.Totals.{flag_of, AllHavePlaces}
use Rattle.ground_parts.proofs.totals.unmark_places.Given as goal

abbrev pub invariant-loop-place : goal.invariant-loop-place
invariant-loop-place l = record {
  left : AllHavePlaces (length l.seen) (drop l.place-index l.places);
  so_far : (x : ℕ) → (not (occurs (first_places (drop l.place-index l.places)) x) && flag_of l.seen x) ≡ (not (occurs (first_places l.places) x) && flag_of l.initial.seen x);
}
