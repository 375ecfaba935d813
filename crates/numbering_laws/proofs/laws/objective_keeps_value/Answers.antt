use Rattle.numbering_laws.proofs.ObjectiveLemmas.{objective_law}
use Rattle.numbering_laws.proofs.laws.objective_keeps_value.Goals as goal

pub returns : goal.returns
returns c = objective_law
