use Rattle.std.proofs.Common.{sym, ◌∙◌, arith}
use Rattle.lexer.proofs.CommentLemmas.{line_lexeme, comment_lexeme, comment_fits, comment_fault}
use Rattle.lexer.proofs.comment.comment.Goals as goal

pub returns-then-not-begins_comment-clause-ok : goal.returns-then-not-begins_comment-clause-ok
returns-then-not-begins_comment-clause-ok c =
    line_lexeme c.args.rest.now c.line_length.result c.requires.begins c.requires.percent (sym c.begins_comment.ensures ∙ c.if-not-begins_comment.true) c.line_length.ensures

pub overflow_add-result : goal.overflow_add-result
overflow_add-result c =
    let fits = comment_fits c.args.rest.now c.in-Some.length (sym c.begins_comment.ensures ∙ c.if-not-begins_comment.false) (sym c.inside_length.ensures ∙ c.in-Some.is) in
    omega arith

pub returns-in-Some-clause-ok : goal.returns-in-Some-clause-ok
returns-in-Some-clause-ok c =
    comment_lexeme c.args.rest.now c.in-Some.length (sym c.begins_comment.ensures ∙ c.if-not-begins_comment.false) (sym c.inside_length.ensures ∙ c.in-Some.is)

pub returns-in-None-clause-fault : goal.returns-in-None-clause-fault
returns-in-None-clause-fault c =
    comment_fault c.args.rest.now (sym c.begins_comment.ensures ∙ c.if-not-begins_comment.false) (sym c.inside_length.ensures ∙ c.in-None.is)
