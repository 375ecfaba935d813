use Rattle.ground_model.proofs.LawProofs.{least_law}
use Rattle.ground_model.proofs.laws.stable_models_are_least.Goals as goal

pub returns : goal.returns
returns c = least_law
