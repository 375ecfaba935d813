use Rattle.safety_meaning.proofs.Ordering.{one_body_law, one_condition_law}
use Rattle.safety_meaning.proofs.Sameness.{ordered_law}
use Rattle.safety_meaning.proofs.laws.one_order.Goals as goal

pub returns-clause-body : goal.returns-clause-body
returns-clause-body c = one_body_law

pub returns-clause-condition : goal.returns-clause-condition
returns-clause-condition c = one_condition_law

pub returns-clause-same : goal.returns-clause-same
returns-clause-same c = ordered_law
