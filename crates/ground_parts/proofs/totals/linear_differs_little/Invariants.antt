use Rattle.std.proofs.Common.{◌≡◌, drop, length}
use Rattle.ground_parts.specs.inner.Totals.{pairs_differ_little, HavePlaces}
use Rattle.ground_parts.proofs.totals.linear_differs_little.Given as goal

abbrev pub invariant-loop-variable : goal.invariant-loop-variable
invariant-loop-variable l = record {
  so_far : pairs_differ_little l.left l.right (drop l.variable-index l.variable-items) ≡ pairs_differ_little l.left l.right l.variable-items;
  in_left : HavePlaces (length l.left) (drop l.variable-index l.variable-items);
  in_right : HavePlaces (length l.right) (drop l.variable-index l.variable-items);
}
