use Rattle.std.proofs.Common.{sym, ◌∙◌, arith}
use Rattle.lexer.specs.Parts.{close_from}
use Rattle.lexer.proofs.CommentLemmas.{close_next}
use Rattle.lexer.proofs.comment.inside_length.Goals as goal

pub loop-at-preserved : goal.loop-at-preserved
loop-at-preserved c =
    close_next c.args.inside.now c.loop-at.at (close_from 0 c.args.inside.now) (omega arith) c.loop-at.invariant (sym c.begins_close.ensures ∙ c.if-begins_close.false)
