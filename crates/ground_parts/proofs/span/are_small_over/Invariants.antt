use Rattle.std.proofs.Common.{◌≡◌, drop}
use Rattle.std.specs.List.{AllByRecursion, list_all}
use Rattle.ground_model.specs.Sound.{is_small_over, first_places}
use Rattle.ground_parts.specs.inner.Totals.{HasSmallNumbers}
use Rattle.ground_parts.proofs.span.are_small_over.Given as goal

abbrev pub invariant-loop-place : goal.invariant-loop-place
invariant-loop-place l = record {
  so_far : list_all (is_small_over l.ends) (first_places (drop l.place-index l.places)) ≡ list_all (is_small_over l.ends) (first_places l.places);
  left : AllByRecursion (λ place. HasSmallNumbers place.linear) (drop l.place-index l.places);
}
