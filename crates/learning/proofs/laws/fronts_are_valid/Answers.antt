use Rattle.learning.proofs.LinesProof.{front_proved}
use Rattle.learning.proofs.laws.fronts_are_valid.Goals as goal

pub returns : goal.returns
returns c = front_proved
