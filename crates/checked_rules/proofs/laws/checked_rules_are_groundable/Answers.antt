use Rattle.checked_rules.proofs.Rules.{rewritten_law}
use Rattle.checked_rules.proofs.Listing.{groundable_law}
use Rattle.checked_rules.proofs.laws.checked_rules_are_groundable.Goals as goal

pub returns-clause-rewritten : goal.returns-clause-rewritten
returns-clause-rewritten c = rewritten_law

pub returns-clause-groundable : goal.returns-clause-groundable
returns-clause-groundable c = groundable_law
