use Rattle.std.proofs.Common.{◌≡◌, ◌++◌, map, take}
use Rattle.std.specs.List.{flat_map}
use Rattle.refusals.specs.inner.Atoms.{atom_in, element_atoms, element_read}
use Rattle.refusals.proofs.atoms.note_elements.Given as goal

abbrev pub invariant-loop-element : goal.invariant-loop-element
invariant-loop-element l = map atom_in l.seen ≡ map atom_in l.fn.seen ++ flat_map element_atoms (map element_read (take l.element-index l.elements))
