use Rattle.std.proofs.Common.{◌≡◌, ◌++◌, length}
use Rattle.std.specs.Prelude.{reverse}
use Rattle.nogood_store.proofs.store.reversed.Given as goal

abbrev pub invariant-turn : goal.invariant-turn
invariant-turn l = reverse l.initial.list ≡ l.other ++ reverse l.list

abbrev pub decreases-turn : goal.decreases-turn
decreases-turn l = length l.list
