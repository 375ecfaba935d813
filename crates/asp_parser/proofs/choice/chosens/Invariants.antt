use Rattle.std.proofs.Common.{◌-◌, length}
use Rattle.asp_parser.proofs.ChoiceReads.{Chosens}
use Rattle.asp_parser.proofs.choice.chosens.Given as goal

abbrev pub invariant-turns : goal.invariant-turns
invariant-turns l = Chosens l.text l.tokens l.at l.fn.kept l.kept l.found l.next

abbrev pub decreases-turns : goal.decreases-turns
decreases-turns l = length l.tokens - l.next
