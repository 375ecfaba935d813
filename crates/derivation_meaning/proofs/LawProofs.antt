-- The laws.
use Rattle.derivation_meaning.specs.Laws.{SoundLaw, AcceptanceLaw, FittingLaw, FoundLaw, GivenLaw}
use Rattle.derivation_meaning.proofs.Inputs.{inputs_met, reasons_met}
use Rattle.derivation_meaning.proofs.Accepted.{lines_sound, claim_holds, claim_fits, lines_found, lines_given}

pub sound_law : SoundLaw
sound_law program lines answer valid remains = lines_sound program (inputs_met program) (reasons_met program) lines valid answer remains

pub acceptance_law : AcceptanceLaw
acceptance_law program lines claim accepted = claim_holds program (inputs_met program) (reasons_met program) lines claim accepted

pub fitting_law : FittingLaw
fitting_law program lines claim accepted = claim_fits program (inputs_met program) (reasons_met program) lines claim accepted

pub found_law : FoundLaw
found_law program lines valid = lines_found program (inputs_met program) (reasons_met program) lines valid

pub given_law : GivenLaw
given_law program lines valid = lines_given program (inputs_met program) (reasons_met program) lines valid
