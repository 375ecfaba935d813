use Rattle.learning.proofs.ExplainedLaws.{starts_law}
use Rattle.learning.proofs.laws.conflicts_can_be_told.Goals as goal

pub returns : goal.returns
returns c = starts_law
