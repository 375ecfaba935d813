use Rattle.std.proofs.Common.{◌≡◌, map, take}
use Rattle.load_meaning.specs.Lines.{is_atom}
use Rattle.refusals.proofs.flags.atom_flags.Given as goal

abbrev pub invariant-loop-sight : goal.invariant-loop-sight
invariant-loop-sight l = l.flags ≡ map is_atom (take l.sight-index l.sights)
