use Rattle.grammar.proofs.SpelledLemmas.{word_here}
use Rattle.grammar.proofs.words.word_at.Goals as goal

pub returns-clause-word : goal.returns-clause-word
returns-clause-word c = word_here c.args.text.now c.args.tokens.now c.args.at _ c.kind_of.result _ c.if-at-tokens.false c.bytes_at.ensures c.kind_of.ensures
