use Rattle.std.proofs.Common.{◌≡◌, ◌++◌, map, take}
use Rattle.program_meaning.specs.Read.{literal_read, plains}
use Rattle.refusals.specs.inner.Atoms.{atom_in, condition_atoms}
use Rattle.refusals.proofs.atoms.note_condition.Given as goal

abbrev pub invariant-loop-literal : goal.invariant-loop-literal
invariant-loop-literal l = map atom_in l.seen ≡ map atom_in l.fn.seen ++ condition_atoms l.in_condition (plains (map literal_read (take l.literal-index l.condition)))
