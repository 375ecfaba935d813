use Rattle.std.proofs.Common.{subst}
use Rattle.syntax_tree.specs.Outcome.{IsKnown}
use Rattle.syntax_tree.proofs.worth.worth_of.Goals as goal

pub returns-in-Some-clause-known : goal.returns-in-Some-clause-known
returns-in-Some-clause-known c size k = c.worth_of_value.ensures.known size (subst (IsKnown size) c.in-Some.is k)
