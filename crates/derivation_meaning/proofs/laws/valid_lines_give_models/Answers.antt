use Rattle.derivation_meaning.proofs.LawProofs.{found_law, given_law}
use Rattle.derivation_meaning.proofs.laws.valid_lines_give_models.Goals as goal

pub returns : goal.returns
returns c = record { found = found_law; given = given_law }
