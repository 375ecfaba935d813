use Rattle.instance_laws.proofs.InstanceLemmas.{instances_law}
use Rattle.instance_laws.proofs.laws.instances_give_rules.Goals as goal

pub returns : goal.returns
returns c = instances_law
