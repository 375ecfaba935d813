use Rattle.std.proofs.Common.{◌≡◌, ◌++◌, length, reverse}
use Rattle.inputs.proofs.parsing.move_behind.Given as goal

abbrev pub invariant-loop-statement : goal.invariant-loop-statement
invariant-loop-statement l = record { items : l.from ++ reverse l.turned ≡ l.fn.from; into : l.into ≡ l.fn.into }

abbrev pub decreases-loop-statement : goal.decreases-loop-statement
decreases-loop-statement l = length l.from

abbrev pub invariant-loop-statement-2 : goal.invariant-loop-statement-2
invariant-loop-statement-2 l = l.into ++ reverse l.turned ≡ l.fn.into ++ l.fn.from

abbrev pub decreases-loop-statement-2 : goal.decreases-loop-statement-2
decreases-loop-statement-2 l = length l.turned
