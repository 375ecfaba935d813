use Rattle.std.proofs.Common.{◌≡◌, ◌++◌, ◌∷◌, [], true, map, drop}
use Rattle.literals.specs.declared.lit.Lit.TheVariants.{Body}
use Rattle.literals.specs.Lits.{complement_of}
use Rattle.literals.specs.Nogoods.{canonical}
use Rattle.completion.specs.Inputs.{body_nogoods}
use Rattle.completion.proofs.body.add_body.Given as goal

abbrev pub invariant-loop-lit : goal.invariant-loop-lit
invariant-loop-lit l =
    l.nogoods ++ map (λ lit. canonical (Body l.number true ∷ complement_of lit ∷ [])) (drop l.lit-index l.lits) ≡ l.fn.nogoods ++ body_nogoods l.number l.lits
