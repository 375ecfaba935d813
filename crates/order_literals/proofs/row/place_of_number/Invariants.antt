use Rattle.std.proofs.Common.{◌-◌, ◌≤◌, length}
use Rattle.order_literals.specs.inner.Rows.{place_in}
use Rattle.order_literals.proofs.row.place_of_number.Given as goal

abbrev pub invariant-halve : goal.invariant-halve
invariant-halve l = record {
  low : l.low ≤ place_in l.list l.number;
  high : place_in l.list l.number ≤ l.high;
  within : l.high ≤ length l.list;
}

abbrev pub decreases-halve : goal.decreases-halve
decreases-halve l = l.high - l.low
