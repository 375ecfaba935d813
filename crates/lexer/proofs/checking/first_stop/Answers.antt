use Rattle.std.proofs.Common.{◌∙◌, ◌++◌, ◌-◌, [], ap, drop, length, refl, arith}
use Rattle.lexer.specs.inner.Lexeme.{lexeme_tokens}
use Rattle.lexer.proofs.PartLemmas.{nothing_read, reach, read_more, all_read, fault_read, lexeme_within}
use Rattle.lexer.proofs.checking.first_stop.Goals as goal

pub loop-rest-init : goal.loop-rest-init
loop-rest-init c = ([], nothing_read c.args.text.now)

pub overflow_sub-at : goal.overflow_sub-at
overflow_sub-at c = omega (arith, reach c.loop-rest.invariant.1)

pub split_at-requires : goal.split_at-requires
split_at-requires c =
    let fits = (lexeme_within c.loop-rest.rest.now c.in-Ok.lexeme c.in-Ok.ensures.ok).1 in
    omega (arith, c.length.ensures)

pub loop-rest-smaller : goal.loop-rest-smaller
loop-rest-smaller c =
    let within = lexeme_within c.loop-rest.rest.now c.in-Ok.lexeme c.in-Ok.ensures.ok in
    let some = within.0 in
    let fits = within.1 in
    omega (arith, c.length.ensures, c.split_at.ensures.back_len)

pub loop-rest-preserved : goal.loop-rest-preserved
loop-rest-preserved c =
    let tokens = c.loop-rest.invariant.0 in
    let rest = c.loop-rest.rest.now in (
      tokens ++ lexeme_tokens (length c.args.text.now - length rest) c.in-Ok.lexeme,
      read_more c.args.text.now tokens rest c.in-Ok.lexeme _ c.split_at.result.1.now c.loop-rest.invariant.1 c.in-Ok.ensures.ok refl
          (c.split_at.ensures.back ∙ ap (λ n. drop n rest) c.length.ensures),
    )

pub returns-in-Err-clause-stopped : goal.returns-in-Err-clause-stopped
returns-in-Err-clause-stopped c =
    fault_read c.args.text.now c.loop-rest.invariant.0 c.loop-rest.rest.now c.in-Err.fault.cause c.in-Err.fault.at c.loop-rest.invariant.1 c.in-Err.ensures.fault
