use Rattle.std.proofs.Common.{◌≡◌, true}
use Rattle.std.specs.List.{filter, range_with_len}
use Rattle.literals.specs.declared.lit.Lit.TheVariants.{Atom}
use Rattle.trail.specs.Assignment.{is_true_on}
use Rattle.decisions.proofs.answer.true_atoms.Given as goal

abbrev pub invariant-loop-at : goal.invariant-loop-at
invariant-loop-at l = l.atoms ≡ filter (λ a. is_true_on l.trail (Atom a true)) (range_with_len 1 l.at)
