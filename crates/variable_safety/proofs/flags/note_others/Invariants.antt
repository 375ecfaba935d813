use Rattle.std.proofs.Common.{◌≡◌, ◌++◌, filter, not, take}
use Rattle.definite_rules.specs.Least.{flag_at}
use Rattle.variable_safety.proofs.flags.note_others.Given as goal

abbrev pub invariant-loop-number : goal.invariant-loop-number
invariant-loop-number l = l.found ≡ l.fn.found ++ filter (λ n. not (flag_at l.flags n)) (take l.number-index l.numbers)
