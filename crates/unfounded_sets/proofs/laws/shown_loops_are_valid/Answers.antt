use Rattle.unfounded_sets.proofs.ReasonLemmas.{shown_law}
use Rattle.unfounded_sets.proofs.laws.shown_loops_are_valid.Goals as goal

pub returns : goal.returns
returns c = shown_law
