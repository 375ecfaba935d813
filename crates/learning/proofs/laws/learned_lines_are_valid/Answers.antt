use Rattle.learning.proofs.LinesProof.{lines_proved}
use Rattle.learning.proofs.laws.learned_lines_are_valid.Goals as goal

pub returns : goal.returns
returns c = lines_proved
