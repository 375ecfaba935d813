use Rattle.std.proofs.Common.{◌≡◌, drop}
use Rattle.derivation.specs.Spelling.{lits_follow}
use Rattle.derivation.proofs.ranges.lits_follow.Given as goal

abbrev pub invariant-loop-l : goal.invariant-loop-l
invariant-loop-l l = lits_follow l.fn.last l.lits ≡ lits_follow l.last (drop l.l-index l.lits)
