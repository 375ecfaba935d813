use Rattle.trail_worlds.proofs.SumLemmas.{sum_law}
use Rattle.trail_worlds.proofs.laws.total_trails_have_one_sum.Goals as goal

pub returns : goal.returns
returns c = sum_law
