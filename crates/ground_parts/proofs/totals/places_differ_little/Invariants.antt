use Rattle.std.proofs.Common.{◌≡◌, drop, length}
use Rattle.ground_parts.specs.inner.Totals.{places_differ_little, AllHavePlaces}
use Rattle.ground_parts.proofs.totals.places_differ_little.Given as goal

abbrev pub invariant-loop-place : goal.invariant-loop-place
invariant-loop-place l = record {
  so_far : places_differ_little l.left l.right (drop l.place-index l.places) ≡ places_differ_little l.left l.right l.places;
  in_left : AllHavePlaces (length l.left) (drop l.place-index l.places);
  in_right : AllHavePlaces (length l.right) (drop l.place-index l.places);
}
