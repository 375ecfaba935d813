use Rattle.instance_laws.proofs.VariableLemmas.{atom_variables_law, instance_variables_law, program_variables_law}
use Rattle.instance_laws.proofs.laws.variables_are_collected.Goals as goal

pub returns-clause-atom : goal.returns-clause-atom
returns-clause-atom c = atom_variables_law

pub returns-clause-instance : goal.returns-clause-instance
returns-clause-instance c = instance_variables_law

pub returns-clause-program : goal.returns-clause-program
returns-clause-program c = program_variables_law
