use Rattle.derivation.proofs.WholeLaws.{spelled_in_one_line, cut, one_cut, one_derivation}
use Rattle.derivation.proofs.laws.derivations_are_read_in_one_way.Goals as goal

pub returns : goal.returns
returns c = record { one_line = spelled_in_one_line; cut = cut; one_cut = one_cut; one = one_derivation }
