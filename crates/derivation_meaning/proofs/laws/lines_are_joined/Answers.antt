use Rattle.derivation_meaning.proofs.JoinLemmas.{join_law}
use Rattle.derivation_meaning.proofs.laws.lines_are_joined.Goals as goal

pub returns : goal.returns
returns c = join_law
