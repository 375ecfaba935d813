use Rattle.interval_variables.proofs.Binding.{interval_law}
use Rattle.interval_variables.proofs.laws.interval_variables_are_bound.Goals as goal

pub returns : goal.returns
returns c = interval_law
