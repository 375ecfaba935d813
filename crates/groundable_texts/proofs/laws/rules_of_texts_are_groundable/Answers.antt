use Rattle.groundable_texts.proofs.Programs.{rules_law, statements_law}
use Rattle.groundable_texts.proofs.laws.rules_of_texts_are_groundable.Goals as goal

pub returns-clause-rules : goal.returns-clause-rules
returns-clause-rules c = rules_law

pub returns-clause-statements : goal.returns-clause-statements
returns-clause-statements c = statements_law
