use Rattle.std.proofs.Common.{◌≡◌, true, false, take}
use Rattle.std.specs.List.{AllByRecursion}
use Rattle.literals.specs.declared.lit.Lit.TheVariants.{Body}
use Rattle.trail.specs.Assignment.{is_true_on}
use Rattle.unfounded_sets.proofs.cut.are_false.Given as goal

abbrev pub invariant-loop-body : goal.invariant-loop-body
invariant-loop-body l = AllByRecursion (λ b. is_true_on l.trail (Body b false) ≡ true) (take l.body-index l.bodies)
