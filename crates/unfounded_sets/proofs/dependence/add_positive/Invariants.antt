use Rattle.std.proofs.Common.{◌≡◌, ◌++◌, drop}
use Rattle.unfounded_sets.specs.Dependence.{positive_atoms}
use Rattle.unfounded_sets.proofs.dependence.add_positive.Given as goal

abbrev pub invariant-loop-lit : goal.invariant-loop-lit
invariant-loop-lit l = l.row.items ++ positive_atoms (drop l.lit-index l.lits) ≡ l.fn.row.items ++ positive_atoms l.lits
