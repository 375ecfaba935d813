use Rattle.std.proofs.Common.{take, refl, sym, ◌∙◌, inr, not, ◌&&◌}
use Rattle.std.proofs.lemmas.Bool.{and_from, not_from_false}
use Rattle.lexer.specs.Bytes.{is_digit}
use Rattle.lexer.specs.Forms.{is_zero_led, is_too_large}
use Rattle.lexer.proofs.ByteLemmas.{run_all_at}
use Rattle.lexer.proofs.NumberLemmas.{run_digits, num_lexeme}
use Rattle.lexer.proofs.number.number.Goals as goal

pub returns-then-is_zero_led-clause-fault : goal.returns-then-is_zero_led-clause-fault
returns-then-is_zero_led-clause-fault c =
    inr (
      refl,
      run_digits is_zero_led c.args.rest.now c.digits-length.result c.digits-length.ensures c.requires.begins c.requires.digit
          (sym c.is_zero_led.ensures ∙ c.if-is_zero_led.true),
    )

pub is_too_large-requires : goal.is_too_large-requires
is_too_large-requires c = run_all_at is_digit c.args.rest.now c.digits-length.result c.digits-length.ensures

pub returns-then-is_too_large-clause-fault : goal.returns-then-is_too_large-clause-fault
returns-then-is_too_large-clause-fault c =
    let run = take c.digits-length.result c.args.rest.now in (
      refl,
      run_digits (λ digits. not (is_zero_led digits) && is_too_large digits) c.args.rest.now c.digits-length.result c.digits-length.ensures c.requires.begins c.requires.digit
          (and_from (not (is_zero_led run)) (is_too_large run)
          (not_from_false (is_zero_led run) (sym c.is_zero_led.ensures ∙ c.if-is_zero_led.false))
          (sym c.is_too_large.ensures ∙ c.if-is_too_large.true)),
    )

pub returns-clause-ok : goal.returns-clause-ok
returns-clause-ok c =
    let run = take c.digits-length.result c.args.rest.now in
    num_lexeme c.args.rest.now c.digits-length.result c.digits-length.ensures c.requires.begins c.requires.digit
    (and_from (not (is_zero_led run)) (not (is_too_large run))
    (not_from_false (is_zero_led run) (sym c.is_zero_led.ensures ∙ c.if-is_zero_led.false))
    (not_from_false (is_too_large run) (sym c.is_too_large.ensures ∙ c.if-is_too_large.false)))
