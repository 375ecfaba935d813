use Rattle.theory_laws.proofs.Causes.{causes_law}
use Rattle.theory_laws.proofs.laws.causes_are_of_atoms.Goals as goal

pub returns : goal.returns
returns c = causes_law
