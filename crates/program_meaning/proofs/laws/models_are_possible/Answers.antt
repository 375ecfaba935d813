use Rattle.program_meaning.proofs.PossibleLaw.{possible_law}
use Rattle.program_meaning.proofs.laws.models_are_possible.Goals as goal

pub returns : goal.returns
returns c = possible_law
