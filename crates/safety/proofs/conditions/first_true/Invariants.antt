use Rattle.std.proofs.Common.{◌≡◌, ◌<◌, ℕ, Bool, false, Some, slice_get}
use Rattle.safety.proofs.conditions.first_true.Given as goal

abbrev pub invariant-loop-place : goal.invariant-loop-place
invariant-loop-place l = (k : ℕ) (x : Bool) → k < l.place → slice_get l.answers k ≡ Some x → x ≡ false
