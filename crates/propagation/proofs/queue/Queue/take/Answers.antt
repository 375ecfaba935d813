use Rattle.std.proofs.Common.{rules}
use Rattle.propagation.proofs.QueueLaws.{queue_taken}
use Rattle.propagation.proofs.queue.Queue.take.Goals as goal

pub invariant_of-self : goal.invariant_of-self
invariant_of-self c = queue_taken c.self.inside.flags.items c.self.inside.places.items c.pop_front.new.self.items c.in-Some.place (search rules) c.self.invariant
