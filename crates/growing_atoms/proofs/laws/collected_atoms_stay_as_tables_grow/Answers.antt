use Rattle.growing_atoms.proofs.Growing.{known_law, same_law}
use Rattle.growing_atoms.proofs.laws.collected_atoms_stay_as_tables_grow.Goals as goal

pub returns-clause-known : goal.returns-clause-known
returns-clause-known c = known_law

pub returns-clause-same : goal.returns-clause-same
returns-clause-same c = same_law
