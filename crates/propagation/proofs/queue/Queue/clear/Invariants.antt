use Rattle.std.proofs.Common.{◌≡◌, length}
use Rattle.propagation.proofs.queue.Queue.clear.Given as goal

abbrev pub invariant-rest : goal.invariant-rest
invariant-rest l = l.self.count ≡ l.fn.self.count

abbrev pub decreases-rest : goal.decreases-rest
decreases-rest l = length l.self.places
