use Rattle.std.proofs.Common.{◌≡◌, ◌++◌}
use Rattle.unfounded_sets.specs.inner.Open.{facts_of}
use Rattle.unfounded_sets.proofs.founded.add_facts.Given as goal

abbrev pub invariant-loop-at : goal.invariant-loop-at
invariant-loop-at l = l.rules ≡ l.fn.rules ++ facts_of l.trail l.at
