use Rattle.numbering_laws.proofs.TheoryLemmas.{theory_law}
use Rattle.numbering_laws.proofs.laws.theory_atoms_are_sound.Goals as goal

pub returns : goal.returns
returns c = theory_law
