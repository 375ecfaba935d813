use Rattle.ground_model.proofs.LawProofs.{share_law}
use Rattle.ground_model.proofs.laws.spans_share_integers.Goals as goal

pub returns : goal.returns
returns c = share_law
