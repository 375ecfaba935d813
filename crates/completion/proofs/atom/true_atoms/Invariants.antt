use Rattle.std.proofs.Common.{◌≡◌, [], map, vec_items}
use Rattle.std.specs.List.{range_with_len}
use Rattle.completion.specs.inner.Parts.{atom_lits}
use Rattle.completion.proofs.atom.true_atoms.Given as goal

abbrev pub invariant-loop-at : goal.invariant-loop-at
invariant-loop-at l = map vec_items l.rows.items ≡ map (atom_lits []) (range_with_len 1 l.at)
