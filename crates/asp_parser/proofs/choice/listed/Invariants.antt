use Rattle.std.proofs.Common.{◌≡◌, ◌++◌, length, reverse}
use Rattle.asp_parser.proofs.choice.listed.Given as goal

abbrev pub invariant-backwards : goal.invariant-backwards
invariant-backwards l = l.fn.items ≡ l.from_end ++ reverse l.backwards

abbrev pub decreases-backwards : goal.decreases-backwards
decreases-backwards l = length l.from_end

abbrev pub invariant-forwards : goal.invariant-forwards
invariant-forwards l = l.fn.items ≡ l.list ++ reverse l.backwards

abbrev pub decreases-forwards : goal.decreases-forwards
decreases-forwards l = length l.backwards
