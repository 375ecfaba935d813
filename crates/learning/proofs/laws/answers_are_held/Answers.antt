use Rattle.learning.proofs.StateLaws.{given_law}
use Rattle.learning.proofs.laws.answers_are_held.Goals as goal

pub returns : goal.returns
returns c = given_law
