use Rattle.std.proofs.Common.{◌≡◌, drop}
use Rattle.lexer.specs.inner.Lexeme.{name_kind}
use Rattle.lexer.proofs.name.name_kind.Given as goal

abbrev pub invariant-loop-byte : goal.invariant-loop-byte
invariant-loop-byte l = name_kind (drop l.byte-index l.rest) ≡ name_kind l.rest
