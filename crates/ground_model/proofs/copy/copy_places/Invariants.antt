use Rattle.std.proofs.Common.{◌≡◌, take}
use Rattle.ground_model.proofs.copy.copy_places.Given as goal

abbrev pub invariant-loop-place : goal.invariant-loop-place
invariant-loop-place l = l.copy ≡ take l.place-index l.places
