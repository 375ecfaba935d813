use Rattle.std.proofs.Common.{sym, ◌∙◌}
use Rattle.lexer.proofs.LexemeLemmas.{blank_lexeme}
use Rattle.lexer.proofs.lexeme.next_lexeme.Goals as goal

pub returns-then-is_blank-clause-ok : goal.returns-then-is_blank-clause-ok
returns-then-is_blank-clause-ok c = blank_lexeme c.args.rest.now c.requires (sym c.is_blank.ensures ∙ c.if-is_blank.true)
