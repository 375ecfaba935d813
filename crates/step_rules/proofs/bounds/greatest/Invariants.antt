use Rattle.std.proofs.Common.{◌≡◌, pos, drop}
use Rattle.std.specs.List.{fold}
use Rattle.linear_normal.specs.Bounds.{discounted}
use Rattle.step_rules.proofs.bounds.greatest.Given as goal

abbrev pub invariant-loop-lit : goal.invariant-loop-lit
invariant-loop-lit l = fold (discounted l.constraint) l.count (drop l.lit-index l.lits) ≡ fold (discounted l.fn.constraint) (pos 1) l.fn.lits
