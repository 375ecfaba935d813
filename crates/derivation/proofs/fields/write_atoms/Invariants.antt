use Rattle.std.proofs.Common.{◌≡◌, ◌++◌, drop, map}
use Rattle.derivation.specs.Fields.{behind, atom_field}
use Rattle.derivation.proofs.fields.write_atoms.Given as goal

abbrev pub invariant-loop-atom : goal.invariant-loop-atom
invariant-loop-atom l = l.out ++ behind (map atom_field (drop l.atom-index l.atoms)) ≡ l.initial.out ++ behind (map atom_field l.atoms)
