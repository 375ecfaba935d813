use Rattle.std.proofs.Common.{◌≡◌, ◌≤◌, ◌^◌, ◌+◌, ◌*◌, ◌+ℤ◌, drop, unsigned_abs}
use Rattle.std.specs.List.{list_any}
use Rattle.literals.specs.Truths.{all_true}
use Rattle.ground_model.specs.World.{world_of}
use Rattle.linear_normal.specs.Truth.{items_value, truths_within}
use Rattle.linear_normal.proofs.holds.+within.Given as goal

abbrev pub decreases-lit_within : goal.decreases-lit_within
decreases-lit_within l = 4 * l.depth + 1

abbrev pub decreases-all_within : goal.decreases-all_within
decreases-all_within l = 4 * l.depth + 2

abbrev pub decreases-body_within : goal.decreases-body_within
decreases-body_within l = 4 * l.depth

abbrev pub decreases-some_within : goal.decreases-some_within
decreases-some_within l = 4 * l.depth + 1

abbrev pub decreases-constraint_within : goal.decreases-constraint_within
decreases-constraint_within l = 4 * l.depth

abbrev pub decreases-says_within : goal.decreases-says_within
decreases-says_within l = 4 * l.depth + 3

abbrev pub decreases-sum_within : goal.decreases-sum_within
decreases-sum_within l = 4 * l.depth + 2

abbrev pub decreases-item_within : goal.decreases-item_within
decreases-item_within l = 4 * l.depth + 1

abbrev pub invariant-all_within-loop-lit : goal.invariant-all_within-loop-lit
invariant-all_within-loop-lit l =
    all_true (truths_within l.depth l.numbered (world_of l.answer)) (drop l.lit-index l.lits) ≡ all_true (truths_within l.depth l.numbered (world_of l.answer)) l.lits

abbrev pub invariant-some_within-loop-body : goal.invariant-some_within-loop-body
invariant-some_within-loop-body l =
    list_any (truths_within l.depth l.numbered (world_of l.answer)).body (drop l.body-index l.bodies) ≡ list_any (truths_within l.depth l.numbered (world_of l.answer)).body l.bodies

abbrev pub invariant-sum_within-loop-item : goal.invariant-sum_within-loop-item
invariant-sum_within-loop-item l = record {
  so_far : l.sum +ℤ items_value (truths_within l.depth l.numbered (world_of l.answer)) (drop l.item-index l.items) ≡ items_value (truths_within l.depth l.numbered (world_of l.answer)) l.items;
  size : unsigned_abs l.sum ≤ l.item-index * 2 ^ 94;
}
