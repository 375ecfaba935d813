use Rattle.std.proofs.Common.{◌≡◌, drop}
use Rattle.grammar.specs.Check.{past}
use Rattle.asp_parser.specs.StatementState.{adding, crowded_by, crowded}
use Rattle.asp_parser.proofs.variables.sooner_crowded.Given as goal

abbrev pub invariant-loop-place : goal.invariant-loop-place
invariant-loop-place l = crowded_by (past l.left (adding (drop l.place-index l.places))) ≡ crowded l.places
