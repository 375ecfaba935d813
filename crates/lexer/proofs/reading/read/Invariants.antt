use Rattle.std.proofs.Common.{length}
use Rattle.lexer.proofs.PartLemmas.{ReadSoFar}
use Rattle.lexer.proofs.reading.read.Given as goal

abbrev pub invariant-loop-rest : goal.invariant-loop-rest
invariant-loop-rest l = ReadSoFar l.text l.tokens l.rest

abbrev pub decreases-loop-rest : goal.decreases-loop-rest
decreases-loop-rest l = length l.rest
