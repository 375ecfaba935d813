use Rattle.trail_worlds.proofs.SayLemmas.{say_law}
use Rattle.trail_worlds.proofs.laws.total_trails_say_their_answers.Goals as goal

pub returns : goal.returns
returns c = say_law
