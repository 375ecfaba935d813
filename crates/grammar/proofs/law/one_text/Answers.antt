use Rattle.grammar.proofs.TextLaws.{one_text}
use Rattle.grammar.proofs.law.one_text.Goals as goal

pub returns : goal.returns
returns c n ss ts same = one_text n ss ts same
