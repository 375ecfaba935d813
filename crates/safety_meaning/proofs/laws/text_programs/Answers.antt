use Rattle.safety_meaning.proofs.Reading.{read_law}
use Rattle.safety_meaning.proofs.laws.text_programs.Goals as goal

pub returns : goal.returns
returns c = read_law
