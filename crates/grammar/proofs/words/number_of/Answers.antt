use Rattle.std.proofs.Common.{arith}
use Rattle.std.specs.Str.Parse.{digits_value}
use Rattle.grammar.proofs.SpelledLemmas.{digit_step, digit_next}
use Rattle.grammar.proofs.words.number_of.Goals as goal

pub overflow_mul-number : goal.overflow_mul-number
overflow_mul-number c =
    let h = digit_step c.loop-digit.number c.loop-digit.digit-index 0 c.args.digits.now (digits_value 10 c.args.digits.now) c.requires.0 (omega arith) c.loop-digit.invariant in
    omega (arith, h, c.requires.1)

pub overflow_add-number : goal.overflow_add-number
overflow_add-number c =
    let h = digit_step c.loop-digit.number c.loop-digit.digit-index 0 c.args.digits.now (digits_value 10 c.args.digits.now) c.requires.0 (omega arith) c.loop-digit.invariant in
    omega (arith, h, c.requires.1)

pub loop-digit-preserved : goal.loop-digit-preserved
loop-digit-preserved c = digit_next c.loop-digit.number c.loop-digit.digit-index 0 c.args.digits.now (digits_value 10 c.args.digits.now) c.requires.0 (omega arith) c.loop-digit.invariant
