use Rattle.std.proofs.Common.{◌≡◌, false, take}
use Rattle.std.specs.List.{list_any}
use Rattle.unfounded_sets.specs.inner.Outer.{is_left}
use Rattle.unfounded_sets.proofs.reason.has_all.Given as goal

abbrev pub invariant-loop-atom : goal.invariant-loop-atom
invariant-loop-atom l = list_any (is_left l.given) (take l.atom-index l.atoms) ≡ false
