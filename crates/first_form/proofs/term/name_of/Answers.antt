use Rattle.first_form.proofs.Functions.{name_is, no_name}
use Rattle.first_form.proofs.term.name_of.Goals as goal

pub returns-in-Ok-clause-some : goal.returns-in-Ok-clause-some
returns-in-Ok-clause-some c = name_is c.args.name.now c.if-is_empty.ensures c.in-Ok.ensures.cases.1

pub returns-in-Err-clause-none : goal.returns-in-Err-clause-none
returns-in-Err-clause-none c = no_name c.args.name.now c.if-is_empty.ensures c.in-Err.ensures.cases.0
