use Rattle.clingcon_app.proofs.OneOutcome.{one_status, one_refusal}
use Rattle.clingcon_app.proofs.law.one_outcome.Goals as goal

pub returns-clause-status : goal.returns-clause-status
returns-clause-status c files words all s t m n p q a b = one_status files words all s t m n p q a b

pub returns-clause-refusal : goal.returns-clause-refusal
returns-clause-refusal c files words all s t m n p q a b refusing = one_refusal files words all s t m n p q a b refusing
