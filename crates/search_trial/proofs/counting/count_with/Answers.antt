use Rattle.std.proofs.Common.{ap}
use Rattle.search_core.specs.Searching.{Searching}
use Rattle.search_trial.proofs.counting.count_with.Goals as goal

pub count_all-requires-clause-unspent : goal.count_all-requires-clause-unspent
count_all-requires-clause-unspent g c = ap (λ (s : Searching). s.spent) c.in_ok-search.ensures

pub count_all-requires-clause-below : goal.count_all-requires-clause-below
count_all-requires-clause-below g c = ap (λ (s : Searching). s.conflicts) c.in_ok-search.ensures
