use Rattle.std.proofs.Common.{◌≡◌, ◌++◌, map, take}
use Rattle.std.specs.List.{flat_map}
use Rattle.program_meaning.specs.Read.{literal_read}
use Rattle.refusals.specs.inner.Atoms.{atom_in, literal_atoms}
use Rattle.refusals.proofs.atoms.note_body.Given as goal

abbrev pub invariant-loop-literal : goal.invariant-loop-literal
invariant-loop-literal l = map atom_in l.seen ≡ map atom_in l.fn.seen ++ flat_map literal_atoms (map literal_read (take l.literal-index l.body))
