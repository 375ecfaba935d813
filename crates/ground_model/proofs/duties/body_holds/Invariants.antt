use Rattle.std.proofs.Common.{◌≡◌, ◌-◌, drop, length}
use Rattle.std.specs.List.{AllByRecursion, list_all}
use Rattle.ground_model.specs.Sizes.{IsReadable}
use Rattle.ground_model.specs.Ways.{literal_holds}
use Rattle.ground_model.specs.World.{world_by}
use Rattle.ground_model.proofs.duties.body_holds.Given as goal

abbrev pub invariant-loop-literal : goal.invariant-loop-literal
invariant-loop-literal l = record {
  so_far : list_all (literal_holds (world_by l.flags l.values)) (drop l.literal-index l.body) ≡ list_all (literal_holds (world_by l.flags l.values)) l.body;
  left : AllByRecursion (IsReadable (length l.flags - 1) (length l.values)) (drop l.literal-index l.body);
}
