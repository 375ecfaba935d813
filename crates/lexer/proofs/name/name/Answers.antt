use Rattle.std.proofs.Common.{sym, ◌∙◌}
use Rattle.lexer.proofs.NameLemmas.{name_lexeme, anons_lexeme}
use Rattle.lexer.proofs.name.name.Goals as goal

pub returns-in-Some : goal.returns-in-Some
returns-in-Some c =
    name_lexeme c.args.rest.now c.name_bytes-length.result c.in-Some.kind c.word_kind.result c.name_bytes-length.ensures (sym c.name_kind.ensures ∙ c.in-Some.is) c.word_kind.ensures

pub returns-in-None : goal.returns-in-None
returns-in-None c =
    anons_lexeme c.args.rest.now c.underscores.result c.underscores.ensures c.requires.begins c.requires.first (sym c.name_kind.ensures ∙ c.in-None.is)
