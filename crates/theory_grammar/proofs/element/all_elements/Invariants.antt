use Rattle.std.proofs.Common.{◌-◌, length}
use Rattle.theory_grammar.proofs.RowReads.{Elements}
use Rattle.theory_grammar.proofs.element.all_elements.Given as goal

abbrev pub invariant-turns : goal.invariant-turns
invariant-turns l = Elements l.text l.tokens l.name l.at l.initial.next l.fn.seen l.seen l.found l.next

abbrev pub decreases-turns : goal.decreases-turns
decreases-turns l = length l.tokens - l.next
