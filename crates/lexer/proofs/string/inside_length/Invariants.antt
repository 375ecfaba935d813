use Rattle.std.proofs.Common.{◌≡◌, drop, false}
use Rattle.lexer.specs.inner.Lexeme.{string_from}
use Rattle.lexer.proofs.string.inside_length.Given as goal

abbrev pub invariant-loop-at : goal.invariant-loop-at
invariant-loop-at l = string_from l.at (drop l.at l.inside) l.escaped ≡ string_from 0 l.inside false
