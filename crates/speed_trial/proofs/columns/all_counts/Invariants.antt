use Rattle.std.proofs.Common.{◌≡◌}
use Rattle.speed_trial.specs.Rounds.{count_of_rounds}
use Rattle.speed_trial.proofs.columns.all_counts.Given as goal

abbrev pub invariant-loop-round : goal.invariant-loop-round
invariant-loop-round l = l.total ≡ count_of_rounds l.lows l.highs l.round
