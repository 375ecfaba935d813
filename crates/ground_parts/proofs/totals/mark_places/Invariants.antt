use Rattle.std.proofs.Common.{◌≡◌, ◌+◌, ◌||◌, ℕ, drop, length}
use Rattle.ground_model.specs.Sound.{occurs, first_places}
use Rattle.ground_parts.specs.inner.Totals.{set_flags, flag_of, AllHavePlaces}
use Rattle.ground_parts.proofs.totals.mark_places.Given as goal

abbrev pub invariant-loop-place : goal.invariant-loop-place
invariant-loop-place l = record {
  left : AllHavePlaces (length l.seen) (drop l.place-index l.places);
  so_far : (x : ℕ) → (occurs (first_places (drop l.place-index l.places)) x || flag_of l.seen x) ≡ (occurs (first_places l.places) x || flag_of l.initial.seen x);
  counted : set_flags l.seen ≡ set_flags l.initial.seen + l.count;
}
