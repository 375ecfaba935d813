use Rattle.std.proofs.Common.{◌≡◌, ◌++◌, drop, map, length}
use Rattle.std.specs.List.{AllByRecursion}
use Rattle.ground_model.specs.Answers.{value_at}
use Rattle.ground_model.specs.Sizes.{IsSizedLinear}
use Rattle.ground_model.specs.Spans.{span_of, IsSizedSpan}
use Rattle.ground_model.proofs.theory.spans_of.Given as goal

abbrev pub invariant-loop-place : goal.invariant-loop-place
invariant-loop-place l = record {
  so_far : l.spans.items ++ map (span_of (value_at l.values)) (drop l.place-index l.places) ≡ map (span_of (value_at l.values)) l.places;
  left : AllByRecursion (λ place. IsSizedLinear (length l.values) place.linear) (drop l.place-index l.places);
  sized : AllByRecursion IsSizedSpan l.spans.items;
}
