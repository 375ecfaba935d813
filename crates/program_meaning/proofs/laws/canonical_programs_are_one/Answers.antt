use Rattle.program_meaning.proofs.One.{one_law}
use Rattle.program_meaning.proofs.laws.canonical_programs_are_one.Goals as goal

pub returns : goal.returns
returns c = one_law
