use Rattle.safety_meaning.proofs.Grounds.{grounds_law}
use Rattle.safety_meaning.proofs.laws.reordered_grounds.Goals as goal

pub returns : goal.returns
returns c = grounds_law
