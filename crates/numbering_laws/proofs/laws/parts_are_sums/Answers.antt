use Rattle.numbering_laws.proofs.PartLemmas.{parts_law}
use Rattle.numbering_laws.proofs.laws.parts_are_sums.Goals as goal

pub returns : goal.returns
returns c = parts_law
