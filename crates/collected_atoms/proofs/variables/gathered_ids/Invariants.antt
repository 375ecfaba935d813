use Rattle.std.proofs.Common.{◌≡◌, ◌++◌, drop}
use Rattle.std.specs.List.{flat_map}
use Rattle.collected_atoms.specs.inner.Settled.{ids_of}
use Rattle.collected_atoms.proofs.variables.gathered_ids.Given as goal

abbrev pub invariant-loop-place : goal.invariant-loop-place
invariant-loop-place l =
    l.ids.items ++ flat_map (λ place. ids_of place.linear.pairs) (drop l.place-index l.places) ≡ flat_map (λ place. ids_of place.linear.pairs) l.places
