use Rattle.trail_worlds.proofs.CalmLemmas.{calm_law}
use Rattle.trail_worlds.proofs.laws.calm_trails_are_answers.Goals as goal

pub returns : goal.returns
returns c = calm_law
