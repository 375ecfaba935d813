use Rattle.linear_normal.proofs.WorldLemmas.{truths_law}
use Rattle.linear_normal.proofs.laws.worlds_have_truths.Goals as goal

pub returns : goal.returns
returns c = truths_law
