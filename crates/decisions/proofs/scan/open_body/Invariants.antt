use Rattle.std.proofs.Common.{◌≤◌, ℕ, true, IsTrue, is_some}
use Rattle.literals.specs.declared.lit.Lit.TheVariants.{Body}
use Rattle.trail.specs.Assignment.{truth_on}
use Rattle.decisions.proofs.scan.open_body.Given as goal

abbrev pub invariant-loop-at : goal.invariant-loop-at
invariant-loop-at l = (n : ℕ) → 1 ≤ n → n ≤ l.at → IsTrue (is_some (truth_on l.trail (Body n true)))
