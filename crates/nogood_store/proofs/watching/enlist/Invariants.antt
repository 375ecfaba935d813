use Rattle.std.proofs.Common.{◌-◌, length}
use Rattle.nogood_store.specs.inner.Watching.{IsStored, IsSame}
use Rattle.nogood_store.proofs.watching.enlist.Given as goal

abbrev pub invariant-enlist : goal.invariant-enlist
invariant-enlist l = record { stored : IsStored l.slots l.work; same : IsSame l.fn.work l.work }

abbrev pub decreases-enlist : goal.decreases-enlist
decreases-enlist l = length l.slots - length l.work.pairs.items
