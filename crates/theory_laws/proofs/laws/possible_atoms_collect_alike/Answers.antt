use Rattle.theory_laws.proofs.Alike.{counts_alike_law, causes_alike_law, collected_alike_law}
use Rattle.theory_laws.proofs.laws.possible_atoms_collect_alike.Goals as goal

pub returns-clause-counts : goal.returns-clause-counts
returns-clause-counts c = counts_alike_law

pub returns-clause-causes : goal.returns-clause-causes
returns-clause-causes c = causes_alike_law

pub returns-clause-collected : goal.returns-clause-collected
returns-clause-collected c = collected_alike_law
