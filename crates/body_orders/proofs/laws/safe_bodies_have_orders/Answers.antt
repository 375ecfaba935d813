use Rattle.body_orders.proofs.Rules.{body_law, choice_law, element_law}
use Rattle.body_orders.proofs.laws.safe_bodies_have_orders.Goals as goal

pub returns-clause-body : goal.returns-clause-body
returns-clause-body c = body_law

pub returns-clause-choice : goal.returns-clause-choice
returns-clause-choice c = choice_law

pub returns-clause-element : goal.returns-clause-element
returns-clause-element c = element_law
