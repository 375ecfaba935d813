use Rattle.std.proofs.Common.{◌≡◌, drop}
use Rattle.derivation.specs.Spelling.{values_ascend}
use Rattle.derivation.proofs.ranges.values_ascend.Given as goal

abbrev pub invariant-loop-x : goal.invariant-loop-x
invariant-loop-x l = values_ascend 0 l.values ≡ values_ascend l.last (drop l.x-index l.values)
