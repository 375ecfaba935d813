use Rattle.linear_normal.proofs.TruthLemmas.{truth_law}
use Rattle.linear_normal.proofs.laws.numbering_keeps_truth.Goals as goal

pub returns : goal.returns
returns c = truth_law
