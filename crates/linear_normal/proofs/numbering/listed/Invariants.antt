use Rattle.std.proofs.Common.{◌≡◌, ◌++◌}
use Rattle.linear_normal.proofs.numbering.listed.Given as goal

abbrev pub invariant-loop-key : goal.invariant-loop-key
invariant-loop-key l = l.constraints ++ l.key-iterator ≡ l.fn.keys.keys
