use Rattle.std.proofs.Common.{◌≡◌, ◌<◌, ◌≤◌, ◌+◌, ◌^◌, ℕ, false, drop, length, slice_index_or}
use Rattle.ground_model.specs.Answers.{has_atom}
use Rattle.ground_model.specs.Duties.{chosen}
use Rattle.ground_model.specs.World.{world_by}
use Rattle.ground_model.proofs.duties.mark_taken.Given as goal

abbrev pub invariant-loop-at : goal.invariant-loop-at
invariant-loop-at l = record {
  short : l.count + l.at < 2 ^ 64;
  within : l.at ≤ length l.items;
  size : length l.seen ≡ length l.flags;
  counted : l.count ≡ length (chosen (world_by l.flags l.values) (drop l.at l.items));
  marks : (a : ℕ) → slice_index_or l.seen a false ≡ has_atom (chosen (world_by l.flags l.values) (drop l.at l.items)) a;
}

abbrev pub decreases-loop-at : goal.decreases-loop-at
decreases-loop-at l = l.at
