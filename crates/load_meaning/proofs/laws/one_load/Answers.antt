use Rattle.load_meaning.proofs.OneLoad.{one_load_law, one_program_law}
use Rattle.load_meaning.proofs.laws.one_load.Goals as goal

pub returns-clause-load : goal.returns-clause-load
returns-clause-load c = one_load_law

pub returns-clause-program : goal.returns-clause-program
returns-clause-program c = one_program_law
