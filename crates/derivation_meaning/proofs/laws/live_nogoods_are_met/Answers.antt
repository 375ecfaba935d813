use Rattle.derivation_meaning.proofs.LawProofs.{sound_law}
use Rattle.derivation_meaning.proofs.laws.live_nogoods_are_met.Goals as goal

pub returns : goal.returns
returns c = sound_law
