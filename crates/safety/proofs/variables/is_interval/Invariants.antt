use Rattle.std.proofs.Common.{◌≡◌, false, take}
use Rattle.std.specs.List.{list_any}
use Rattle.rewriting.specs.Order.{is_interval_sight}
use Rattle.safety.proofs.variables.is_interval.Given as goal

abbrev pub invariant-loop-sight : goal.invariant-loop-sight
invariant-loop-sight l = list_any (is_interval_sight l.number) (take l.sight-index l.sights) ≡ false
