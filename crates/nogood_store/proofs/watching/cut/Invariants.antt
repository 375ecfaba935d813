use Rattle.std.proofs.Common.{◌≡◌, length}
use Rattle.nogood_store.specs.Holding.{IsFront}
use Rattle.nogood_store.specs.inner.Watching.{looks_of, below}
use Rattle.nogood_store.proofs.watching.cut.Given as goal

abbrev pub invariant-back : goal.invariant-back
invariant-back l = record {
  same : l.work ≡ record l.fn.work { looked = l.work.looked };
  front : IsFront (looks_of l.work.looked.items) (looks_of l.fn.work.looked.items);
  below : below l.fn.work.low (looks_of l.work.looked.items) ≡ below l.fn.work.low (looks_of l.fn.work.looked.items);
}

abbrev pub decreases-back : goal.decreases-back
decreases-back l = length l.work.looked.items
