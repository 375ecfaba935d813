use Rattle.completion_laws.proofs.InputLemmas.{inputs_law}
use Rattle.completion_laws.proofs.laws.inputs_are_named.Goals as goal

pub returns : goal.returns
returns c = inputs_law
