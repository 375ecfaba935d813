use Rattle.std.proofs.Common.{drop}
use Rattle.lexer.proofs.NumberLemmas.{ValueLeft}
use Rattle.lexer.proofs.number.is_too_large.Given as goal

abbrev pub invariant-loop-digit : goal.invariant-loop-digit
invariant-loop-digit l = ValueLeft l.digits (drop l.digit-index l.digits) l.value
