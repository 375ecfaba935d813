use Rattle.std.specs.List.{All}
use Rattle.literals.specs.Nogoods.{IsNogood}
use Rattle.derivation.specs.Lists.{lits_of}
use Rattle.derivation_tests.proofs.worked.read_lines.Given as goal

abbrev pub invariant-loop-text : goal.invariant-loop-text
invariant-loop-text l = All (λ line. IsNogood (lits_of line)) l.lines
