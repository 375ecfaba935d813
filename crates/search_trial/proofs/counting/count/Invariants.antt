use Rattle.std.proofs.Common.{◌≡◌, ◌<◌, false}
use Rattle.search_trial.proofs.counting.count.Given as goal

abbrev pub invariant-loop-answers : goal.invariant-loop-answers
invariant-loop-answers g l = record {
  unspent : l.search.spent ≡ false;
  below : l.search.conflicts < l.limit;
}
