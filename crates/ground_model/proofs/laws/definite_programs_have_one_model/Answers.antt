use Rattle.ground_model.proofs.LawProofs.{definite_law}
use Rattle.ground_model.proofs.laws.definite_programs_have_one_model.Goals as goal

pub returns : goal.returns
returns c = definite_law
