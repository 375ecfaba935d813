use Rattle.safety_meaning.proofs.Wholes.{variable_law, objective_law, limits_law}
use Rattle.safety_meaning.proofs.laws.reordered_programs.Goals as goal

pub returns-clause-variables : goal.returns-clause-variables
returns-clause-variables c = variable_law

pub returns-clause-objective : goal.returns-clause-objective
returns-clause-objective c = objective_law

pub returns-clause-limits : goal.returns-clause-limits
returns-clause-limits c = limits_law
