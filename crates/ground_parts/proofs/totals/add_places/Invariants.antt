use Rattle.std.proofs.Common.{◌≡◌, ◌+ℤ◌, ◌-◌, ◌*◌, ℕ, drop, length}
use Rattle.std.specs.List.{AllByRecursion}
use Rattle.ground_model.specs.Sizes.{IsSizedLinear}
use Rattle.ground_model.specs.Sound.{total_coefficient, first_places}
use Rattle.ground_parts.specs.inner.Totals.{sum_at, AreWithin}
use Rattle.ground_parts.proofs.totals.add_places.Given as goal

abbrev pub invariant-loop-place : goal.invariant-loop-place
invariant-loop-place l = record {
  left : AllByRecursion (λ place. IsSizedLinear (length l.sums - 1) place.linear) (drop l.place-index l.places);
  so_far : (x : ℕ) → (sum_at l.sums x +ℤ total_coefficient x (first_places (drop l.place-index l.places))) ≡ total_coefficient x (first_places l.places);
  within : AreWithin (l.place-index * 65536) l.sums;
}
