use Rattle.outside_laws.proofs.KeyLemmas.{first_outside_law, none_outside_law}
use Rattle.outside_laws.proofs.laws.first_instances_are_outside.Goals as goal

pub returns-clause-first : goal.returns-clause-first
returns-clause-first c = first_outside_law

pub returns-clause-inside : goal.returns-clause-inside
returns-clause-inside c = none_outside_law
