use Rattle.derivation.proofs.NogoodLaws.{line_nogood}
use Rattle.derivation.proofs.laws.lines_end_in_nogoods.Goals as goal

pub returns : goal.returns
returns c = line_nogood
