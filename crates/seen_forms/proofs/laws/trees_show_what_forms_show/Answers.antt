use Rattle.seen_forms.proofs.Statements.{headed_law, constraint_law}
use Rattle.seen_forms.proofs.laws.trees_show_what_forms_show.Goals as goal

pub returns-clause-headed : goal.returns-clause-headed
returns-clause-headed c = headed_law

pub returns-clause-constraint : goal.returns-clause-constraint
returns-clause-constraint c = constraint_law
