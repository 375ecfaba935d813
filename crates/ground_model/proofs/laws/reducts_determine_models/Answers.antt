use Rattle.ground_model.proofs.LawProofs.{determined_law}
use Rattle.ground_model.proofs.laws.reducts_determine_models.Goals as goal

pub returns : goal.returns
returns c = determined_law
