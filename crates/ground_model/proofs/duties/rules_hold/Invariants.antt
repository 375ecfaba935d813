use Rattle.std.proofs.Common.{◌≡◌, ◌-◌, drop, length}
use Rattle.std.specs.List.{AllByRecursion, list_all}
use Rattle.ground_model.specs.Duties.{rule_holds}
use Rattle.ground_model.specs.Sizes.{IsReadableRule}
use Rattle.ground_model.specs.World.{world_by, AreClear}
use Rattle.ground_model.proofs.duties.rules_hold.Given as goal

abbrev pub invariant-loop-rule : goal.invariant-loop-rule
invariant-loop-rule l = record {
  so_far : list_all (rule_holds (world_by l.flags l.values)) (drop l.rule-index l.rules) ≡ list_all (rule_holds (world_by l.flags l.values)) l.rules;
  left : AllByRecursion (IsReadableRule (length l.flags - 1) (length l.values)) (drop l.rule-index l.rules);
  size : length l.seen.items ≡ length l.flags;
  clear : AreClear l.seen.items;
}
