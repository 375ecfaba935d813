use Rattle.std.proofs.Common.{◌≡◌, ◌++◌, drop}
use Rattle.std.specs.List.{flat_map}
use Rattle.linear_totals.proofs.gathering.gathered.Given as goal

abbrev pub invariant-loop-place : goal.invariant-loop-place
invariant-loop-place l = l.pairs.items ++ flat_map (λ place. place.linear.pairs) (drop l.place-index l.places) ≡ flat_map (λ place. place.linear.pairs) l.places
