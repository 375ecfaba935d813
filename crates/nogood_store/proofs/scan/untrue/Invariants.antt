use Rattle.std.proofs.Common.{◌≡◌, ℕ, ◌<◌, true, get_or}
use Rattle.literals.specs.declared.lit.Lit.{Lit}
use Rattle.trail.specs.Assignment.{is_true_on}
use Rattle.nogood_store.proofs.scan.untrue.Given as goal

abbrev pub invariant-loop-index : goal.invariant-loop-index
invariant-loop-index l = (k : ℕ) → k < l.index → (d : Lit) → (k ≡ l.out → ⊥) → is_true_on l.trail (get_or l.lits k d) ≡ true
