use Rattle.ground_model.proofs.LawProofs.{tests_law}
use Rattle.ground_model.proofs.laws.tests_decide_models.Goals as goal

pub returns : goal.returns
returns c = tests_law
