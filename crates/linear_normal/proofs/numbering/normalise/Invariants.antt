use Rattle.std.proofs.Common.{length, drop}
use Rattle.linear_normal.proofs.NumberingLemmas.{IsPart}
use Rattle.linear_normal.proofs.numbering.normalise.Given as goal

abbrev pub invariant-loop-rule : goal.invariant-loop-rule
invariant-loop-rule l =
    IsPart (length l.ground.atoms) (length l.ground.variables) l.ground.rules (drop l.rule-index l.ground.rules) l.keys.keys l.bodies l.supports l.duties
