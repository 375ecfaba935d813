use Rattle.std.proofs.Common.{◌<◌}
use Rattle.ground_model.proofs.SweepLemmas.{IsSwept}
use Rattle.ground_model.proofs.theory.follow_each_other.Given as goal

abbrev pub invariant-loop-at : goal.invariant-loop-at
invariant-loop-at l = record {
  earlier : l.last < l.at;
  swept : IsSwept l.spans l.last l.at;
}
