use Rattle.std.proofs.Common.{sym, ◌∙◌, arith}
use Rattle.lexer.proofs.StringLemmas.{string_lexeme, string_fits, string_fault}
use Rattle.lexer.proofs.string.string.Goals as goal

pub overflow_add-result : goal.overflow_add-result
overflow_add-result c =
    let fits = string_fits c.args.rest.now c.in-Some.length c.requires.begins (sym c.inside_length.ensures ∙ c.in-Some.is) in
    omega arith

pub returns-in-Some-clause-ok : goal.returns-in-Some-clause-ok
returns-in-Some-clause-ok c = string_lexeme c.args.rest.now c.in-Some.length c.requires.begins c.requires.quote (sym c.inside_length.ensures ∙ c.in-Some.is)

pub returns-in-None-clause-fault : goal.returns-in-None-clause-fault
returns-in-None-clause-fault c = string_fault c.args.rest.now c.requires.begins c.requires.quote (sym c.inside_length.ensures ∙ c.in-None.is)
