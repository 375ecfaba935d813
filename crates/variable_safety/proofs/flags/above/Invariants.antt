use Rattle.std.proofs.Common.{◌≤◌, ◌<◌}
use Rattle.std.specs.List.{AllWithin}
use Rattle.variable_safety.proofs.flags.above.Given as goal

abbrev pub invariant-loop-number : goal.invariant-loop-number
invariant-loop-number l = record { grown : l.fn.size ≤ l.size; above : AllWithin (λ n. n < l.size) l.numbers 0 l.number-index }
