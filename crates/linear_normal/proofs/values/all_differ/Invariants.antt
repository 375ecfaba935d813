use Rattle.std.proofs.Common.{◌≡◌, [], drop, map}
use Rattle.std.specs.List.{AllByRecursion}
use Rattle.ground_model.specs.Answers.{value_at}
use Rattle.ground_model.specs.Truth.{all_pairs, differ}
use Rattle.ground_model.specs.View.{place_of}
use Rattle.linear_normal.specs.Holds.{HasFewPairs}
use Rattle.linear_normal.proofs.values.all_differ.Given as goal

abbrev pub invariant-loop-at : goal.invariant-loop-at
invariant-loop-at l = record {
  same : all_pairs (differ (value_at l.values)) (map (place_of []) (drop l.at l.places)) ≡ all_pairs (differ (value_at l.values)) (map (place_of []) l.places);
  left : AllByRecursion HasFewPairs (drop l.at l.places);
}
