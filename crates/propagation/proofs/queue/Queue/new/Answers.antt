use Rattle.std.proofs.Common.{◌∙◌}
use Rattle.propagation.proofs.QueueLaws.{all_woken}
use Rattle.propagation.proofs.queue.Queue.new.Goals as goal

pub loop-place-preserved : goal.loop-place-preserved
loop-place-preserved c = record {
  count = c.wake.ensures.count ∙ c.loop-place.invariant.count;
  woken = all_woken c.loop-place.queue.places c.wake.new.self.places c.loop-place.place c.loop-place.invariant.woken c.wake.ensures.kept c.in_ok-wake.ensures.awake;
}
