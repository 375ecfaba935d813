use Rattle.std.proofs.Common.{◌≡◌, ◌++◌, drop, flat_map}
use Rattle.completion.specs.inner.Waits.{positive_atom}
use Rattle.completion.proofs.tight.add_positive.Given as goal

abbrev pub invariant-loop-lit : goal.invariant-loop-lit
invariant-loop-lit l = l.row.items ++ flat_map positive_atom (drop l.lit-index l.lits) ≡ l.fn.row.items ++ flat_map positive_atom l.lits
