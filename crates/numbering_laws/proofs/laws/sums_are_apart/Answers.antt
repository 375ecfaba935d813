use Rattle.numbering_laws.proofs.ItemLemmas.{items_law}
use Rattle.numbering_laws.proofs.laws.sums_are_apart.Goals as goal

pub returns : goal.returns
returns c = items_law
