use Rattle.std.proofs.Common.{◌≡◌, false, take}
use Rattle.std.specs.List.{AllByRecursion}
use Rattle.literals.specs.declared.lit.Lit.TheVariants.{Atom}
use Rattle.trail.specs.Assignment.{is_true_on}
use Rattle.unfounded_sets.proofs.cut.are_open.Given as goal

abbrev pub invariant-loop-atom : goal.invariant-loop-atom
invariant-loop-atom l = AllByRecursion (λ a. is_true_on l.trail (Atom a false) ≡ false) (take l.atom-index l.set)
