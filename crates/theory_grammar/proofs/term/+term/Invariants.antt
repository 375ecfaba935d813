use Rattle.std.proofs.Common.{◌+◌, ◌-◌, ◌*◌, length}
use Rattle.theory_grammar.proofs.Loops.{Factors, Addends, Arguments}
use Rattle.theory_grammar.proofs.term.+term.Given as goal

abbrev pub decreases-unary : goal.decreases-unary
decreases-unary l = 16 * l.depth + 6

abbrev pub decreases-operand : goal.decreases-operand
decreases-operand l = 16 * l.depth + 5

abbrev pub decreases-named : goal.decreases-named
decreases-named l = 16 * l.depth + 4

abbrev pub decreases-opened : goal.decreases-opened
decreases-opened l = 16 * l.depth + 4

abbrev pub decreases-negated : goal.decreases-negated
decreases-negated l = 16 * l.depth + 3

abbrev pub decreases-bracket : goal.decreases-bracket
decreases-bracket l = 16 * l.depth + 3

abbrev pub decreases-factor : goal.decreases-factor
decreases-factor l = 16 * l.depth + 7

abbrev pub decreases-product : goal.decreases-product
decreases-product l = 16 * l.depth + 8

abbrev pub decreases-addend : goal.decreases-addend
decreases-addend l = 16 * l.depth + 9

abbrev pub decreases-sum : goal.decreases-sum
decreases-sum l = 16 * l.depth + 10

abbrev pub decreases-term : goal.decreases-term
decreases-term l = 16 * l.depth + 11

abbrev pub decreases-argument : goal.decreases-argument
decreases-argument l = 16 * l.depth + 12

abbrev pub decreases-arguments : goal.decreases-arguments
decreases-arguments l = 16 * l.depth + 13

abbrev pub decreases-behind_comma : goal.decreases-behind_comma
decreases-behind_comma l = 16 * l.depth + 14

abbrev pub invariant-product-turns : goal.invariant-product-turns
invariant-product-turns l = Factors l.depth l.text l.tokens l.at l.initial.next l.fn.seen l.seen l.parts l.next

abbrev pub invariant-sum-turns : goal.invariant-sum-turns
invariant-sum-turns l = Addends l.depth l.text l.tokens l.at l.initial.next l.fn.seen l.seen l.parts l.next

abbrev pub invariant-arguments-turns : goal.invariant-arguments-turns
invariant-arguments-turns l = Arguments l.depth l.text l.tokens l.at l.initial.next l.fn.seen l.seen l.found l.next

abbrev pub decreases-product-turns : goal.decreases-product-turns
decreases-product-turns l = length l.tokens - l.next

abbrev pub decreases-sum-turns : goal.decreases-sum-turns
decreases-sum-turns l = length l.tokens - l.next

abbrev pub decreases-arguments-turns : goal.decreases-arguments-turns
decreases-arguments-turns l = length l.tokens - l.next
