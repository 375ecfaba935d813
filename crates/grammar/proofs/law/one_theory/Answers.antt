use Rattle.grammar.proofs.TheoryLaws.{one_theory}
use Rattle.grammar.proofs.law.one_theory.Goals as goal

pub returns : goal.returns
returns c n a b behind beyond same ends ends2 = one_theory n a b behind beyond same ends ends2
