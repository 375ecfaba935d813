use Rattle.std.proofs.Common.{◌≡◌, ◌≤◌, ◌+◌, drop}
use Rattle.std.specs.List.{AllByRecursion}
use Rattle.linear_normal.specs.Bounds.{bounds_named}
use Rattle.linear_normal.specs.Steps.{is_between}
use Rattle.step_rules.specs.inner.Counts.{count_of}
use Rattle.step_rules.specs.inner.Sizes.{IsShort}
use Rattle.step_rules.proofs.distinct.counted.Given as goal

abbrev pub invariant-loop-place : goal.invariant-loop-place
invariant-loop-place l = record {
  so_far : l.count + count_of (is_between (bounds_named l.fn.ends l.fn.lits) l.fn.window.from l.fn.window.to) (drop l.place-index l.places)
      ≡ count_of (is_between (bounds_named l.fn.ends l.fn.lits) l.fn.window.from l.fn.window.to) l.places;
  short : AllByRecursion IsShort (drop l.place-index l.places);
  few : l.count ≤ l.place-index;
}
