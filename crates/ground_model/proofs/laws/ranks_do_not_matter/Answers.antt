use Rattle.ground_model.proofs.LawProofs.{ranks_law}
use Rattle.ground_model.proofs.laws.ranks_do_not_matter.Goals as goal

pub returns : goal.returns
returns c = ranks_law
