use Rattle.instance_laws.proofs.DirectiveLemmas.{directed_law}
use Rattle.instance_laws.proofs.laws.directives_are_collected.Goals as goal

pub returns : goal.returns
returns c = directed_law
