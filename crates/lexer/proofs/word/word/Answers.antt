use Rattle.std.proofs.Common.{drop, codes}
use Rattle.lexer.proofs.WordLemmas.{const_lexeme, show_lexeme, starts, word_fault}
use Rattle.lexer.proofs.word.word.Goals as goal

pub returns-then-starts_with-clause-ok : goal.returns-then-starts_with-clause-ok
returns-then-starts_with-clause-ok c =
    const_lexeme c.args.rest.now (drop 6 c.args.rest.now) (starts c.args.rest.now (codes "#const") c.starts_with.result c.starts_with.ensures.value c.if-starts_with.true)

pub returns-then-starts_with-2-clause-ok : goal.returns-then-starts_with-2-clause-ok
returns-then-starts_with-2-clause-ok c =
    show_lexeme c.args.rest.now (drop 5 c.args.rest.now) (starts c.args.rest.now (codes "#show") c.starts_with-2.result c.starts_with-2.ensures.value c.if-starts_with-2.true)

pub returns-clause-fault : goal.returns-clause-fault
returns-clause-fault c =
    word_fault c.args.rest.now c.starts_with.result c.starts_with-2.result c.requires.begins c.requires.hash c.starts_with.ensures.value c.if-starts_with.false
    c.starts_with-2.ensures.value c.if-starts_with-2.false
