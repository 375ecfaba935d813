use Rattle.load_meaning.proofs.OneGrounding.{one_ground_law}
use Rattle.load_meaning.proofs.laws.one_ground.Goals as goal

pub returns : goal.returns
returns c = one_ground_law
