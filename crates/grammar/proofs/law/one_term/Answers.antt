use Rattle.grammar.proofs.TermLaws.{one_term}
use Rattle.grammar.proofs.law.one_term.Goals as goal

pub returns : goal.returns
returns c n t u behind beyond same ends ends2 = one_term n t u behind beyond same ends ends2
