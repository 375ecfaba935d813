use Rattle.std.proofs.Common.{◌≡◌, ◌≤◌, true, drop, length, Bor}
use Rattle.std.specs.List.{list_any}
use Rattle.ground_model.specs.declared.linear.Place.{Place}
use Rattle.ground_model.specs.Sound.{same_place, are_different}
use Rattle.ground_parts.proofs.different.differ_by_hash.Given as goal

abbrev pub invariant-loop-at : goal.invariant-loop-at
invariant-loop-at l = record {
  within : l.at ≤ length l.places;
  members : (place : Bor Place) → list_any (λ key. same_place place.now key.now) l.later.keys ≡ list_any (same_place place.now) (drop l.at l.places);
  so_far : are_different (drop l.at l.places) ≡ true;
}

abbrev pub decreases-loop-at : goal.decreases-loop-at
decreases-loop-at l = l.at
