use Rattle.std.proofs.Common.{◌≡◌, ◌++◌, map, drop}
use Rattle.linear_normal.proofs.selections.atoms_of.Given as goal

abbrev pub invariant-loop-item : goal.invariant-loop-item
invariant-loop-item l = l.atoms.items ++ map (λ item. item.atom) (drop l.item-index l.items) ≡ map (λ item. item.atom) l.items
