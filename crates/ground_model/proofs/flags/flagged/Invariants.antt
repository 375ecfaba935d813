use Rattle.std.proofs.Common.{◌≡◌, ◌+◌, ◌++◌, drop}
use Rattle.ground_model.specs.World.{flagged_from}
use Rattle.ground_model.proofs.flags.flagged.Given as goal

abbrev pub invariant-loop-flag : goal.invariant-loop-flag
invariant-loop-flag l = record {
  counted : l.before ≡ l.flag-index;
  so_far : l.numbers ++ flagged_from (l.before + 1) (drop l.flag-index l.flags) ≡ flagged_from 1 l.flags;
}
