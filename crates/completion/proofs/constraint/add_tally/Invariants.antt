use Rattle.std.proofs.Common.{◌≡◌, ◌++◌, ◌∷◌, [], true, false, map, drop}
use Rattle.literals.specs.declared.lit.Lit.TheVariants.{Body, Constraint}
use Rattle.literals.specs.Nogoods.{canonical}
use Rattle.linear_normal.specs.declared.constraint.Constraint.TheVariants as c
use Rattle.completion.specs.Inputs.{constraint_nogoods}
use Rattle.completion.proofs.constraint.add_tally.Given as goal

abbrev pub invariant-loop-body : goal.invariant-loop-body
invariant-loop-body l =
    l.nogoods ++ map (λ b. canonical (Constraint l.number false ∷ Body b true ∷ [])) (drop l.body-index l.bodies) ≡ l.fn.nogoods ++ constraint_nogoods l.number (c.Tally l.bodies)
