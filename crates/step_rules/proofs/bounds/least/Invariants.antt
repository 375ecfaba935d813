use Rattle.std.proofs.Common.{◌≡◌, pos, drop}
use Rattle.std.specs.List.{fold}
use Rattle.linear_normal.specs.Bounds.{counted}
use Rattle.step_rules.proofs.bounds.least.Given as goal

abbrev pub invariant-loop-lit : goal.invariant-loop-lit
invariant-loop-lit l = fold (counted l.constraint) l.count (drop l.lit-index l.lits) ≡ fold (counted l.fn.constraint) (pos 0) l.fn.lits
