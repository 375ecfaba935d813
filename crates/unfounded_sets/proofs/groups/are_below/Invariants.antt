use Rattle.std.proofs.Common.{◌≡◌, ◌<◌, slice_index, take}
use Rattle.std.specs.List.{AllByRecursion}
use Rattle.unfounded_sets.proofs.groups.are_below.Given as goal

abbrev pub invariant-loop-other : goal.invariant-loop-other
invariant-loop-other l = (l.own ≡ slice_index l.level l.atom) × AllByRecursion (λ b. slice_index l.level b < slice_index l.level l.atom) (take l.other-index l.row)
