use Rattle.unfounded_sets.proofs.LawLemmas.{holds_law}
use Rattle.unfounded_sets.proofs.laws.inputs_hold_supports.Goals as goal

pub returns : goal.returns
returns c = holds_law
