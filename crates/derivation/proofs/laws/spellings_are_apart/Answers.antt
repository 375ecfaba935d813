use Rattle.derivation.proofs.LineLaws.{one_line}
use Rattle.derivation.proofs.laws.spellings_are_apart.Goals as goal

pub returns : goal.returns
returns c = one_line
