use Rattle.std.proofs.Common.{◌≤◌, ℕ, length}
use Rattle.propagation.specs.Waking.{AreWithin}
use Rattle.propagation.specs.inner.Hearing.{EachIsKept}
use Rattle.propagation.proofs.wakes.add_rows.Given as goal

abbrev pub invariant-loop-row : goal.invariant-loop-row
invariant-loop-row l = record {
  long : l._row ≤ length l.rows.items;
  longer : length l.fn.rows.items ≤ length l.rows.items;
  kept : EachIsKept l.fn.rows.items l.rows.items;
  within : (n : ℕ) → AreWithin n l.fn.rows.items → AreWithin n l.rows.items;
}
