use Rattle.learning.proofs.ExplainedLaws.{growth_law, decision_law, undo_law, hold_law, cost_law}
use Rattle.learning.proofs.laws.explained_trails_stay.Goals as goal

pub returns : goal.returns
returns c = record { growth = growth_law; decision = decision_law; undo = undo_law; held = hold_law; cost = cost_law }
