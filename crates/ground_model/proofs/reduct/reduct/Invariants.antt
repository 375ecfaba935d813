use Rattle.std.proofs.Common.{◌≡◌, ◌-◌, ◌++◌, drop, length}
use Rattle.std.specs.List.{AllByRecursion}
use Rattle.ground_model.specs.Reduct.{reduct}
use Rattle.ground_model.specs.Sizes.{IsReadableRule}
use Rattle.ground_model.specs.World.{world_by}
use Rattle.ground_model.proofs.reduct.reduct.Given as goal

abbrev pub invariant-loop-rule : goal.invariant-loop-rule
invariant-loop-rule l = record {
  so_far : l.definite ++ reduct (drop l.rule-index l.rules) (world_by l.flags l.values) ≡ reduct l.rules (world_by l.flags l.values);
  left : AllByRecursion (IsReadableRule (length l.flags - 1) (length l.values)) (drop l.rule-index l.rules);
}
