use Rattle.std.proofs.Common.{List, length}
use Rattle.lexer.specs.declared.token.Token.{Token}
use Rattle.lexer.proofs.PartLemmas.{ReadSoFar}
use Rattle.lexer.proofs.checking.first_stop.Given as goal

abbrev pub invariant-loop-rest : goal.invariant-loop-rest
invariant-loop-rest l = (tokens : List Token) × ReadSoFar l.text tokens l.rest

abbrev pub decreases-loop-rest : goal.decreases-loop-rest
decreases-loop-rest l = length l.rest
