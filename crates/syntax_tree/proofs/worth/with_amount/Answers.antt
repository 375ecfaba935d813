use Rattle.syntax_tree.proofs.worth.with_amount.Goals as goal

pub returns-in-Over-clause-known : goal.returns-in-Over-clause-known
returns-in-Over-clause-known c = c.with_over.ensures.known _
