use Rattle.objective_laws.proofs.Judged.{small_law, large_law}
use Rattle.objective_laws.proofs.laws.objectives_are_judged.Goals as goal

pub returns-clause-small : goal.returns-clause-small
returns-clause-small c = small_law

pub returns-clause-large : goal.returns-clause-large
returns-clause-large c = large_law
