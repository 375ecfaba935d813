use Rattle.instance_laws.proofs.FormLemmas.{theories_law, told_law, guarded_law, relation_law, duty_law}
use Rattle.instance_laws.proofs.laws.collected_atoms_give_parts.Goals as goal

pub returns-clause-theories : goal.returns-clause-theories
returns-clause-theories c = theories_law

pub returns-clause-told : goal.returns-clause-told
returns-clause-told c = told_law

pub returns-clause-guarded : goal.returns-clause-guarded
returns-clause-guarded c = guarded_law

pub returns-clause-relation : goal.returns-clause-relation
returns-clause-relation c = relation_law

pub returns-clause-duty : goal.returns-clause-duty
returns-clause-duty c = duty_law
