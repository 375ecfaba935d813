use Rattle.std.proofs.Common.{◌≡◌, ◌∷◌, true, take}
use Rattle.literals.specs.declared.lit.Lit.TheVariants.{Atom}
use Rattle.completion.specs.Inputs.{all_false}
use Rattle.unfounded_sets.proofs.reason.loop_lits.Given as goal

abbrev pub invariant-loop-body : goal.invariant-loop-body
invariant-loop-body l = l.lits.items ≡ Atom l.atom true ∷ all_false (take l.body-index l.bodies)
