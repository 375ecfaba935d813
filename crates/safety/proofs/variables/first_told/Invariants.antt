use Rattle.std.proofs.Common.{◌≡◌, ◌<◌, ℕ, false, Some, slice_get}
use Rattle.safety.specs.inner.Rules.{is_told}
use Rattle.safety.proofs.variables.first_told.Given as goal

abbrev pub invariant-loop-place : goal.invariant-loop-place
invariant-loop-place l = (k x : ℕ) → k < l.place → slice_get l.order k ≡ Some x → is_told l.flags l.sights x ≡ false
