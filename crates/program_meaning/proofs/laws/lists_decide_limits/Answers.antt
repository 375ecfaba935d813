use Rattle.program_meaning.proofs.Limits.{count_law, tuples_law, variables_law}
use Rattle.program_meaning.proofs.laws.lists_decide_limits.Goals as goal

pub returns-clause-count : goal.returns-clause-count
returns-clause-count c = count_law

pub returns-clause-tuples : goal.returns-clause-tuples
returns-clause-tuples c = tuples_law

pub returns-clause-variables : goal.returns-clause-variables
returns-clause-variables c = variables_law
