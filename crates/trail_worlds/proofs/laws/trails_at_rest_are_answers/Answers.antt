use Rattle.trail_worlds.proofs.AnswerLemmas.{answer_law}
use Rattle.trail_worlds.proofs.laws.trails_at_rest_are_answers.Goals as goal

pub returns : goal.returns
returns c = answer_law
