use Rattle.std.proofs.Common.{◌≡◌, ◌++◌}
use Rattle.lexer.specs.inner.Lexeme.{anon_tokens}
use Rattle.lexer.proofs.reading.push_anons.Given as goal

abbrev pub invariant-loop-index : goal.invariant-loop-index
invariant-loop-index l = l.tokens ≡ l.initial.tokens ++ anon_tokens l.at l.index
