use Rattle.std.proofs.Common.{◌≡◌, map, take, vec_items}
use Rattle.std.specs.List.{range_with_len}
use Rattle.completion.specs.inner.Parts.{atom_lits}
use Rattle.completion.proofs.atom.atom_rows.Given as goal

abbrev pub invariant-loop-support : goal.invariant-loop-support
invariant-loop-support l = map vec_items l.rows.items ≡ map (atom_lits (take l.support-index l.supports)) (range_with_len 1 l.atoms)
