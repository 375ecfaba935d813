use Rattle.derivation_meaning.proofs.LawProofs.{acceptance_law, fitting_law}
use Rattle.derivation_meaning.proofs.laws.accepted_claims_hold.Goals as goal

pub returns : goal.returns
returns c = record { holds = acceptance_law; fits = fitting_law }
