use Rattle.std.proofs.Common.{◌-◌, length}
use Rattle.asp_parser.proofs.LiteralReads.{Literals}
use Rattle.asp_parser.proofs.body.literals.Given as goal

abbrev pub invariant-turns : goal.invariant-turns
invariant-turns l = Literals l.text l.tokens l.at l.fn.kept l.kept l.found l.next

abbrev pub decreases-turns : goal.decreases-turns
decreases-turns l = length l.tokens - l.next
