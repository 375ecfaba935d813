use Rattle.std.proofs.Common.{◌≡◌, ◌≤◌, ◌^◌, ◌*◌, ◌+ℤ◌, drop, unsigned_abs}
use Rattle.std.specs.List.{AllByRecursion}
use Rattle.ground_model.specs.Sound.{total_constant, first_places}
use Rattle.linear_normal.specs.inner.Sums.{HasSmallNumbers}
use Rattle.linear_normal.proofs.sums.total_constant.Given as goal

abbrev pub invariant-loop-place : goal.invariant-loop-place
invariant-loop-place l = record {
  so_far : l.sum +ℤ total_constant (first_places (drop l.place-index l.places)) ≡ total_constant (first_places l.places);
  left : AllByRecursion HasSmallNumbers (drop l.place-index l.places);
  size : unsigned_abs l.sum ≤ l.place-index * 2 ^ 62;
}
