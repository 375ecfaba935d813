use Rattle.std.proofs.Common.{◌≡◌, ◌++◌, drop}
use Rattle.collected_atoms.specs.inner.Settled.{ids_of}
use Rattle.collected_atoms.proofs.variables.append_ids.Given as goal

abbrev pub invariant-loop-pair : goal.invariant-loop-pair
invariant-loop-pair l = l.ids.items ++ ids_of (drop l.pair-index l.pairs) ≡ l.fn.ids.items ++ ids_of l.pairs
