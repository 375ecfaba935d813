use Rattle.rewritten_rules.proofs.Orders.{ordered_law, numbered_law}
use Rattle.rewritten_rules.proofs.laws.rewritten_rules_have_their_variables.Goals as goal

pub returns-clause-ordered : goal.returns-clause-ordered
returns-clause-ordered c = ordered_law

pub returns-clause-numbered : goal.returns-clause-numbered
returns-clause-numbered c = numbered_law
