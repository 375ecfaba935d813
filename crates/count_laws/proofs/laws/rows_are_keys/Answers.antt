use Rattle.count_laws.proofs.KeyLemmas.{rule_keys_law, choice_keys_law}
use Rattle.count_laws.proofs.laws.rows_are_keys.Goals as goal

pub returns-clause-rules : goal.returns-clause-rules
returns-clause-rules c = rule_keys_law

pub returns-clause-choice : goal.returns-clause-choice
returns-clause-choice c = choice_keys_law
