use Rattle.grammar.proofs.TextLaws.{one_statement}
use Rattle.grammar.proofs.law.one_statement.Goals as goal

pub returns : goal.returns
returns c n s t behind beyond same = one_statement n s t behind beyond same
