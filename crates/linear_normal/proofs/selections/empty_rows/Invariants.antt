use Rattle.std.proofs.Common.{◌≡◌, ◌++◌, [], map, drop, vec_items}
use Rattle.linear_normal.proofs.selections.empty_rows.Given as goal

abbrev pub invariant-loop-atom : goal.invariant-loop-atom
invariant-loop-atom l = map vec_items l.rows.items ++ map (λ a. []) (drop l._atom-index l.atoms) ≡ map (λ a. []) l.atoms
