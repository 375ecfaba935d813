use Rattle.std.proofs.Common.{◌∙◌, ap, drop, arith}
use Rattle.lexer.proofs.PartLemmas.{reach, read_more, fault_read, lexeme_within}
use Rattle.lexer.proofs.reading.read.Goals as goal

pub overflow_sub-at : goal.overflow_sub-at
overflow_sub-at c = omega (arith, reach c.loop-rest.invariant)

pub push_tokens-requires : goal.push_tokens-requires
push_tokens-requires c =
    let fits = (lexeme_within c.loop-rest.rest.now c.in-Ok.lexeme c.in-Ok.ensures.ok).1 in
    omega (arith, reach c.loop-rest.invariant)

pub split_at-requires : goal.split_at-requires
split_at-requires c =
    let fits = (lexeme_within c.loop-rest.rest.now c.in-Ok.lexeme c.in-Ok.ensures.ok).1 in
    omega (arith, c.length.ensures)

pub loop-rest-smaller : goal.loop-rest-smaller
loop-rest-smaller c =
    let within = lexeme_within c.loop-rest.rest.now c.in-Ok.lexeme c.in-Ok.ensures.ok in
    let some = within.0 in
    let fits = within.1 in
    omega (arith, c.length.ensures, c.split_at.ensures.back_len)

pub loop-rest-preserved : goal.loop-rest-preserved
loop-rest-preserved c =
    read_more c.args.text.now c.loop-rest.tokens c.loop-rest.rest.now c.in-Ok.lexeme c.push_tokens.new.tokens c.split_at.result.1.now
    c.loop-rest.invariant c.in-Ok.ensures.ok c.in_ok-push_tokens-in-Ok.ensures (c.split_at.ensures.back ∙ ap (λ n. drop n c.loop-rest.rest.now) c.length.ensures)

pub returns-in-Err-clause-fault : goal.returns-in-Err-clause-fault
returns-in-Err-clause-fault c =
    fault_read c.args.text.now c.loop-rest.tokens c.loop-rest.rest.now c.in-Err.fault.cause c.in-Err.fault.at c.loop-rest.invariant c.in-Err.ensures.fault
