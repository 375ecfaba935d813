use Rattle.std.proofs.Common.{◌≡◌, ◌++◌, drop, map}
use Rattle.std.specs.List.{AllByRecursion}
use Rattle.ground_model.specs.Sound.{first_places}
use Rattle.linear_normal.specs.inner.Sums.{opposite_pair, pairs_in, HasSmallNumbers}
use Rattle.linear_normal.proofs.sums.take_places.Given as goal

abbrev pub invariant-loop-place : goal.invariant-loop-place
invariant-loop-place l = record {
  so_far : l.gathered.items ++ map opposite_pair (pairs_in (first_places (drop l.place-index l.places))) ≡ l.fn.gathered.items ++ map opposite_pair (pairs_in (first_places l.places));
  left : AllByRecursion HasSmallNumbers (drop l.place-index l.places);
}
