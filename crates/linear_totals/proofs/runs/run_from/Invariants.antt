use Rattle.std.proofs.Common.{◌≡◌, ◌≤◌, ◌*◌, ◌^◌, drop, pos, unsigned_abs, Some}
use Rattle.linear_totals.specs.inner.Sums.{run_in, are_small_runs}
use Rattle.linear_totals.proofs.runs.run_from.Given as goal

abbrev pub invariant-loop-place : goal.invariant-loop-place
invariant-loop-place l = record {
  runs : are_small_runs (Some (run_in l.run)) (drop l.place l.sorted) ≡ are_small_runs (Some (l.fn.first, pos 0)) l.sorted;
  size : unsigned_abs l.run.sum ≤ l.place * 2 ^ 62;
}
