use Rattle.ground_rule_laws.proofs.FewAtoms.{few_atoms_law}
use Rattle.ground_rule_laws.proofs.laws.atoms_are_counted.Goals as goal

pub returns : goal.returns
returns c = few_atoms_law
