use Rattle.std.proofs.Common.{◌≡◌, drop}
use Rattle.lexer.specs.Parts.{close_from}
use Rattle.lexer.proofs.comment.inside_length.Given as goal

abbrev pub invariant-loop-at : goal.invariant-loop-at
invariant-loop-at l = close_from l.at (drop l.at l.inside) ≡ close_from 0 l.inside
