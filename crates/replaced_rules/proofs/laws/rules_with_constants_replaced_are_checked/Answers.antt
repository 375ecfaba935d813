use Rattle.replaced_rules.proofs.Rules.{sights_law, replaced_law}
use Rattle.replaced_rules.proofs.laws.rules_with_constants_replaced_are_checked.Goals as goal

pub returns-clause-sights : goal.returns-clause-sights
returns-clause-sights c = sights_law

pub returns-clause-checked : goal.returns-clause-checked
returns-clause-checked c = replaced_law
