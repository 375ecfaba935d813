use Rattle.plan_terms.proofs.PlanTerms.{rule_terms_law, choice_terms_law, element_terms_law}
use Rattle.plan_terms.proofs.laws.plans_are_of_terms.Goals as goal

pub returns-clause-rule : goal.returns-clause-rule
returns-clause-rule c = rule_terms_law

pub returns-clause-choice : goal.returns-clause-choice
returns-clause-choice c = choice_terms_law

pub returns-clause-element : goal.returns-clause-element
returns-clause-element c = element_terms_law
