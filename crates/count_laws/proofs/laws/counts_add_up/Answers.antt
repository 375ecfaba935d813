use Rattle.count_laws.proofs.InstanceCounts.{instance_law}
use Rattle.count_laws.proofs.ProgramCounts.{program_law, limit_law}
use Rattle.count_laws.proofs.laws.counts_add_up.Goals as goal

pub returns-clause-instance : goal.returns-clause-instance
returns-clause-instance c = instance_law

pub returns-clause-program : goal.returns-clause-program
returns-clause-program c = program_law

pub returns-clause-limit : goal.returns-clause-limit
returns-clause-limit c = limit_law
