use Rattle.safety_meaning.proofs.Failing.{one_failure_law, fine_law}
use Rattle.safety_meaning.proofs.laws.one_failure.Goals as goal

pub returns-clause-one : goal.returns-clause-one
returns-clause-one c = one_failure_law

pub returns-clause-none : goal.returns-clause-none
returns-clause-none c = fine_law
