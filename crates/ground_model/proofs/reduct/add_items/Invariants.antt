use Rattle.std.proofs.Common.{◌≡◌, ◌-◌, ◌++◌, drop, length, map}
use Rattle.std.specs.List.{AllByRecursion}
use Rattle.ground_model.specs.Reduct.{kept_of}
use Rattle.ground_model.specs.Sizes.{IsReadableItem}
use Rattle.ground_model.specs.Ways.{choice_way}
use Rattle.ground_model.specs.World.{world_by}
use Rattle.ground_model.proofs.reduct.add_items.Given as goal

abbrev pub invariant-loop-item : goal.invariant-loop-item
invariant-loop-item l = record {
  so_far : l.into ++ kept_of (world_by l.flags l.values) (map (choice_way l.body) (drop l.item-index l.items)) ≡ l.fn.into ++ kept_of (world_by l.flags l.values) (map (choice_way l.body) l.items);
  left : AllByRecursion (IsReadableItem (length l.flags - 1) (length l.values)) (drop l.item-index l.items);
}
