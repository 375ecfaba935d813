use Rattle.grammar.proofs.WrittenWords.{words_written}
use Rattle.grammar.proofs.law.words_are_written.Goals as goal

pub returns : goal.returns
returns c text tokens is = words_written text tokens is
