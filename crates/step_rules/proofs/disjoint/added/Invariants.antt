use Rattle.std.proofs.Common.{◌≡◌, ◌≤◌, ◌*◌, ◌^◌, ◌+ℤ◌, drop, unsigned_abs}
use Rattle.std.specs.List.{AllByRecursion}
use Rattle.linear_normal.specs.Bounds.{bounds_named}
use Rattle.linear_normal.specs.Steps.{is_within_window}
use Rattle.step_rules.specs.inner.Counts.{work_in}
use Rattle.step_rules.specs.inner.Sizes.{IsShort}
use Rattle.step_rules.proofs.disjoint.added.Given as goal

abbrev pub invariant-loop-place : goal.invariant-loop-place
invariant-loop-place l = record {
  so_far : l.work +ℤ work_in (is_within_window (bounds_named l.fn.ends l.fn.lits) l.fn.window.from l.fn.window.to) (drop l.place-index l.places)
      ≡ work_in (is_within_window (bounds_named l.fn.ends l.fn.lits) l.fn.window.from l.fn.window.to) l.places;
  short : AllByRecursion IsShort (drop l.place-index l.places);
  size : unsigned_abs l.work ≤ l.place-index * 2 ^ 31;
}
