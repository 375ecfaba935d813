use Rattle.std.proofs.Common.{◌≡◌, map, take}
use Rattle.unfounded_sets.specs.Dependence.{positive_atoms}
use Rattle.unfounded_sets.proofs.dependence.positive_rows.Given as goal

abbrev pub invariant-loop-body : goal.invariant-loop-body
invariant-loop-body l = l.rows ≡ map (λ body. positive_atoms body.lits) (take l.body-index l.bodies)
