use Rattle.derivation_meaning.proofs.CheaperLemmas.{cheaper_law}
use Rattle.derivation_meaning.proofs.laws.reasons_stay_valid.Goals as goal

pub returns : goal.returns
returns c = cheaper_law
