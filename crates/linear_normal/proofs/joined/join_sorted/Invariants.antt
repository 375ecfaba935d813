use Rattle.std.proofs.Common.{◌≤◌, ◌^◌, ◌*◌, drop, unsigned_abs}
use Rattle.linear_normal.proofs.JoinLemmas.{Joins}
use Rattle.linear_normal.proofs.joined.join_sorted.Given as goal

abbrev pub invariant-loop-next : goal.invariant-loop-next
invariant-loop-next l = record {
  joins : Joins l.sorted l.variables l.found l.variable l.sum (drop l.next-index l.sorted);
  size : unsigned_abs l.sum ≤ l.next-index * 2 ^ 62;
}
