use Rattle.std.proofs.Common.{◌≡◌, ◌≤◌, length, drop}
use Rattle.std.specs.Cmp.Lexicographic.{slice_cmp}
use Rattle.sorted_rows.specs.Orders.{value_order}
use Rattle.sorted_rows.proofs.ordering.compare_rows.Given as goal

abbrev pub invariant-loop-place : goal.invariant-loop-place
invariant-loop-place l = record {
  rest : slice_cmp (value_order l.symbols) l.left l.right ≡ slice_cmp (value_order l.symbols) (drop l.place l.left) (drop l.place l.right);
  within : l.place ≤ length l.right;
}
