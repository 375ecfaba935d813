use Rattle.groundable_rules.proofs.Numbered.{globals_law, choice_law, element_law}
use Rattle.groundable_rules.proofs.laws.groundable_rules_have_numbered_variables.Goals as goal

pub returns-clause-globals : goal.returns-clause-globals
returns-clause-globals c = globals_law

pub returns-clause-choice : goal.returns-clause-choice
returns-clause-choice c = choice_law

pub returns-clause-element : goal.returns-clause-element
returns-clause-element c = element_law
