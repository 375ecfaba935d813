use Rattle.std.proofs.Common.{◌≡◌, ◌<◌, ℕ, true, false, drop, map, length, slice_index_or}
use Rattle.std.specs.List.{AllByRecursion}
use Rattle.ground_model.specs.Answers.{has_atom}
use Rattle.ground_model.proofs.duties.clear_marks.Given as goal

abbrev pub invariant-loop-item : goal.invariant-loop-item
invariant-loop-item l = record {
  left : AllByRecursion (λ item. item.atom < length l.seen) (drop l.item-index l.items);
  marks : (a : ℕ) → slice_index_or l.seen a false ≡ true → has_atom (map (λ item. item.atom) (drop l.item-index l.items)) a ≡ true;
}
