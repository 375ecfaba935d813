use Rattle.predicate_order.proofs.Meanings.{reached_blocked, blocked_reached, turns_recursive, recursive_turns}
use Rattle.predicate_order.proofs.laws.ways_mean.Goals as goal

pub returns-clause-blocked : goal.returns-clause-blocked
returns-clause-blocked c = λ rules rank p. (reached_blocked rules rank p, blocked_reached rules rank p)

pub returns-clause-recursive : goal.returns-clause-recursive
returns-clause-recursive c = λ rules rule. (turns_recursive rules rule, recursive_turns rules rule)
