use Rattle.std.proofs.Common.{◌≡◌, [], drop, map}
use Rattle.std.specs.List.{AllByRecursion, list_all}
use Rattle.ground_model.specs.Answers.{value_at}
use Rattle.ground_model.specs.Truth.{differ}
use Rattle.ground_model.specs.View.{place_of}
use Rattle.linear_normal.specs.Holds.{HasFewPairs}
use Rattle.linear_normal.proofs.values.differs_from.Given as goal

abbrev pub invariant-loop-other : goal.invariant-loop-other
invariant-loop-other l = record {
  same : list_all (differ (value_at l.fn.values) (place_of [] l.fn.place)) (map (place_of []) (drop l.other-index l.others)) ≡ list_all (differ (value_at l.fn.values) (place_of [] l.fn.place)) (map (place_of []) l.others);
  left : AllByRecursion HasFewPairs (drop l.other-index l.others);
}
