use Rattle.std.proofs.Common.{◌≡◌, ◌≤◌, ◌^◌, ◌*◌, ◌+ℤ◌, [], drop, map, length, unsigned_abs}
use Rattle.std.specs.List.{AllByRecursion}
use Rattle.ground_model.specs.Truth.{sum_of}
use Rattle.ground_model.specs.View.{place_of}
use Rattle.ground_model.specs.Answers.{value_at}
use Rattle.ground_model.specs.Sizes.{IsSizedLinear}
use Rattle.ground_model.proofs.value.sum_value.Given as goal

abbrev pub invariant-loop-place : goal.invariant-loop-place
invariant-loop-place l = record {
  so_far : l.sum +ℤ sum_of (value_at l.values) (map (place_of []) (drop l.place-index l.places)) ≡ sum_of (value_at l.values) (map (place_of []) l.places);
  left : AllByRecursion (λ place. IsSizedLinear (length l.values) place.linear) (drop l.place-index l.places);
  size : unsigned_abs l.sum ≤ l.place-index * 2 ^ 109;
}
