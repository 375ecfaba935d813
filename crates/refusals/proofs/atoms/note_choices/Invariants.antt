use Rattle.std.proofs.Common.{◌≡◌, ◌++◌, map, take}
use Rattle.std.specs.List.{flat_map}
use Rattle.program_meaning.specs.Read.{choice_read}
use Rattle.refusals.specs.inner.Atoms.{atom_in, choice_atoms}
use Rattle.refusals.proofs.atoms.note_choices.Given as goal

abbrev pub invariant-loop-element : goal.invariant-loop-element
invariant-loop-element l = map atom_in l.seen ≡ map atom_in l.fn.seen ++ flat_map choice_atoms (map choice_read (take l.element-index l.elements))
