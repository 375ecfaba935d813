use Rattle.large_atoms.proofs.LargeLemmas.{AreSmallBefore}
use Rattle.large_atoms.proofs.atoms.has_large_atom.Given as goal

abbrev pub invariant-loop-place : goal.invariant-loop-place
invariant-loop-place l = AreSmallBefore l.ends l.symbols l.place l.plans l.atoms
