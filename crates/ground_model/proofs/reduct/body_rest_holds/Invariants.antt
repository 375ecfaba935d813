use Rattle.std.proofs.Common.{◌≡◌, ◌-◌, drop, length}
use Rattle.std.specs.List.{AllByRecursion, list_all}
use Rattle.ground_model.specs.Reduct.{rest_holds}
use Rattle.ground_model.specs.Sizes.{IsReadable}
use Rattle.ground_model.specs.World.{world_by}
use Rattle.ground_model.proofs.reduct.body_rest_holds.Given as goal

abbrev pub invariant-loop-literal : goal.invariant-loop-literal
invariant-loop-literal l = record {
  so_far : list_all (rest_holds (world_by l.flags l.values)) (drop l.literal-index l.body) ≡ list_all (rest_holds (world_by l.flags l.values)) l.body;
  left : AllByRecursion (IsReadable (length l.flags - 1) (length l.values)) (drop l.literal-index l.body);
}
