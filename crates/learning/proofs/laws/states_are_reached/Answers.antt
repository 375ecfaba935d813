use Rattle.learning.proofs.StateLaws.{start_law, reach_law}
use Rattle.learning.proofs.laws.states_are_reached.Goals as goal

pub returns : goal.returns
returns c = record { start = start_law; on = reach_law }
