use Rattle.std.proofs.Common.{◌≡◌, ◌+◌, vec_len}
use Rattle.unfounded_sets.proofs.cut.all_but_lost.Given as goal

abbrev pub invariant-loop-atom : goal.invariant-loop-atom
invariant-loop-atom l = vec_len l.given ≡ l.fn.atoms + 1
