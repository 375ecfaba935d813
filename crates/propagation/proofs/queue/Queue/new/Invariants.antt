use Rattle.std.proofs.Common.{◌≡◌, ◌<◌, ℕ}
use Rattle.std.specs.List.{Contains}
use Rattle.propagation.proofs.queue.Queue.new.Given as goal

abbrev pub invariant-loop-place : goal.invariant-loop-place
invariant-loop-place l = record {
  count : l.queue.count ≡ l.count;
  woken : (i : ℕ) → i < l.place → Contains l.queue.places i;
}
