use Rattle.std.proofs.Common.{◌≤◌, ◌<◌, ℕ}
use Rattle.literals.specs.declared.lit.Lit.{Lit}
use Rattle.conflict_analysis.specs.inner.Runs.{IsHit}
use Rattle.conflict_analysis.proofs.walk.last_before.Given as goal

abbrev pub invariant-loop-place : goal.invariant-loop-place
invariant-loop-place l = record {
  order : l.place ≤ l.at;
  none : (i : ℕ) (x : Lit) → l.place ≤ i → i < l.at → IsHit l.trail l.marks i x → ⊥;
}

abbrev pub decreases-loop-place : goal.decreases-loop-place
decreases-loop-place l = l.place
