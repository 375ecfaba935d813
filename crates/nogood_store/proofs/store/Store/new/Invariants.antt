use Rattle.std.proofs.Common.{◌≡◌, ◌+◌, ◌++◌, [], length}
use Rattle.std.specs.Prelude.{reverse}
use Rattle.nogood_store.specs.Holding.{AreBelow, numbered_from}
use Rattle.nogood_store.proofs.store.Store.new.Given as goal

abbrev pub invariant-fill : goal.invariant-fill
invariant-fill l = record {
  count : l.id + length l.rest ≡ l.count;
  held : numbered_from 1 (reverse l.initial.rest) ≡ l.store.held ++ numbered_from (l.id + 1) (reverse l.rest);
  below : AreBelow (l.id + 1) l.store.held;
  looked : l.store.looked ≡ [];
}

abbrev pub decreases-fill : goal.decreases-fill
decreases-fill l = length l.rest
