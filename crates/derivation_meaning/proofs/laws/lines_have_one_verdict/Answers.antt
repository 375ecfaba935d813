use Rattle.derivation_meaning.proofs.VerdictLemmas.{verdict_law}
use Rattle.derivation_meaning.proofs.laws.lines_have_one_verdict.Goals as goal

pub returns : goal.returns
returns c = verdict_law
