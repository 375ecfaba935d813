use Rattle.std.proofs.Common.{◌≡◌, drop}
use Rattle.std.specs.Cmp.Lexicographic.{pointwise}
use Rattle.literals.specs.Lits.{same_lit}
use Rattle.proof_checker.proofs.same.agree.Given as goal

abbrev pub invariant-loop-at : goal.invariant-loop-at
invariant-loop-at l = pointwise same_lit (drop l.at l.a) (drop l.at l.b) ≡ pointwise same_lit l.a l.b
