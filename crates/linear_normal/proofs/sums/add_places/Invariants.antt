use Rattle.std.proofs.Common.{◌≡◌, ◌++◌, drop}
use Rattle.ground_model.specs.Sound.{first_places}
use Rattle.linear_normal.specs.inner.Sums.{pairs_in}
use Rattle.linear_normal.proofs.sums.add_places.Given as goal

abbrev pub invariant-loop-place : goal.invariant-loop-place
invariant-loop-place l = l.gathered.items ++ pairs_in (first_places (drop l.place-index l.places)) ≡ l.fn.gathered.items ++ pairs_in (first_places l.places)
