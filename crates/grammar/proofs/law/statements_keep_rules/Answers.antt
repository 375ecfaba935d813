use Rattle.grammar.proofs.WrittenStatements.{texts_keep}
use Rattle.grammar.proofs.law.statements_keep_rules.Goals as goal

pub returns : goal.returns
returns c text tokens n statements is same = texts_keep text tokens n statements is same
