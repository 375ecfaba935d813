use Rattle.std.proofs.Common.{◌≡◌, ◌<◌, ◌++◌, ◌||◌, not, drop, length, map}
use Rattle.std.specs.List.{AllByRecursion}
use Rattle.shown_flags.specs.inner.Lone.{flag_of}
use Rattle.shown_flags.proofs.variables.flags.Given as goal

abbrev pub invariant-loop-id : goal.invariant-loop-id
invariant-loop-id l = record {
  so_far : l.flags ++ map (λ id. not l.shows || flag_of l.marks id) (drop l.id-index l.variables) ≡ map (λ id. not l.shows || flag_of l.marks id) l.variables;
  left : AllByRecursion (λ id. id < length l.marks) (drop l.id-index l.variables);
}
