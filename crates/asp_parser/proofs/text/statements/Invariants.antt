use Rattle.std.proofs.Common.{◌-◌, length}
use Rattle.asp_parser.specs.TextState.{Stood}
use Rattle.asp_parser.proofs.text.statements.Given as goal

abbrev pub invariant-turns : goal.invariant-turns
invariant-turns l = Stood l.text l.tokens l.at l.found

abbrev pub decreases-turns : goal.decreases-turns
decreases-turns l = length l.tokens - l.at
