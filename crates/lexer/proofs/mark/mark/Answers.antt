use Rattle.std.proofs.Common.{sym, ◌∙◌}
use Rattle.lexer.proofs.MarkLemmas.{long_lexeme, short_lexeme, mark_fault}
use Rattle.lexer.proofs.mark.mark.Goals as goal

pub returns-then-begins_long_mark-clause-ok : goal.returns-then-begins_long_mark-clause-ok
returns-then-begins_long_mark-clause-ok c = long_lexeme c.args.rest.now c.requires.other (sym c.begins_long_mark.ensures ∙ c.if-begins_long_mark.true)

pub returns-then-is_short_mark-clause-ok : goal.returns-then-is_short_mark-clause-ok
returns-then-is_short_mark-clause-ok c =
    short_lexeme c.args.rest.now c.requires.begins c.requires.other (sym c.begins_long_mark.ensures ∙ c.if-begins_long_mark.false)
    (sym c.is_short_mark.ensures ∙ c.if-is_short_mark.true)

pub returns-clause-fault : goal.returns-clause-fault
returns-clause-fault c =
    mark_fault c.args.rest.now c.requires.begins c.requires.other (sym c.begins_long_mark.ensures ∙ c.if-begins_long_mark.false)
    (sym c.is_short_mark.ensures ∙ c.if-is_short_mark.false)
