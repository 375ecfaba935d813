use Rattle.std.proofs.Common.{◌≡◌, drop}
use Rattle.derivation.specs.Spelling.{ascend}
use Rattle.derivation.proofs.ranges.ascend.Given as goal

abbrev pub invariant-loop-n : goal.invariant-loop-n
invariant-loop-n l = ascend 0 l.numbers ≡ ascend l.last (drop l.n-index l.numbers)
