-- What the slots of a store keep. Only the store's own code reads this file.
use Rattle.std.specs.Prelude.{◌<◌, List, [], ◌∷◌, map}
use Rattle.std.specs.List.{AllByRecursion}
use Rattle.nogood_store.specs.declared.slot.Slot.{Slot}
use Rattle.nogood_store.specs.Holding.{Held}

-- the nogoods of the slots, under their ids
abbrev pub held_of : List Slot → List Held
held_of slots = map (λ s. record { id = s.id; nogood = s.nogood }) slots

-- each id is below those that follow it
abbrev pub SlotsAscend : List Slot → Type 0
SlotsAscend [] = Unit {0}
SlotsAscend (s ∷ ss) = AllByRecursion (λ r. s.id < r.id) ss × SlotsAscend ss
