use Rattle.unfounded_sets.proofs.LawLemmas.{rest_law}
use Rattle.unfounded_sets.proofs.laws.supports_stand_at_rest.Goals as goal

pub returns : goal.returns
returns c = rest_law
