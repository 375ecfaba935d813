use Rattle.std.proofs.Common.{sym, arith}
use Rattle.lexer.proofs.NumberLemmas.{value_passed}
use Rattle.lexer.proofs.number.is_too_large.Goals as goal

pub returns-then-value-gt2147483647 : goal.returns-then-value-gt2147483647
returns-then-value-gt2147483647 c =
    sym (value_passed c.args.digits.now c.loop-digit.digit-index c.loop-digit.value (omega arith) c.loop-digit.invariant (omega arith))
