use Rattle.linear_normal.proofs.StepLemmas.{step_law}
use Rattle.linear_normal.proofs.laws.valid_steps_are_met.Goals as goal

pub returns : goal.returns
returns c = step_law
