use Rattle.literals.proofs.Worlds.{true_canonical}
use Rattle.literals.proofs.Merges.{nogood_canonical}
use Rattle.literals.proofs.nogood.Nogood.from_lits.Goals as goal

pub invariant_of-result : goal.invariant_of-result
invariant_of-result c = rw c.in_ok-items.ensures (nogood_canonical c.args.lits.now c.requires)

pub returns-clause-same : goal.returns-clause-same
returns-clause-same c = λ t. rw c.in_ok-items.ensures (true_canonical t c.args.lits.now)
