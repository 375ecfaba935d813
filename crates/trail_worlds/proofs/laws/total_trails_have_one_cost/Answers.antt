use Rattle.trail_worlds.proofs.CostLemmas.{cost_law}
use Rattle.trail_worlds.proofs.laws.total_trails_have_one_cost.Goals as goal

pub returns : goal.returns
returns c = cost_law
