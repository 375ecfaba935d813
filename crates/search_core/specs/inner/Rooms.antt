-- What holds of all that a search works with, and what its steps leave. Only the code of this crate reads this file.
use Rattle.std.specs.Prelude.{◌≡◌, ℕ, ◌<◌, ◌^◌, Bool, true, false, List, map, length, Option, None, Some}
use Rattle.symbols.specs.declared.ends.Ends.{Ends}
use Rattle.trail.specs.declared.entry.Entry.{Entry}
use Rattle.conflict_analysis.specs.declared.learned.Start.{Start}
use Rattle.derivation_meaning.specs.State.{State, holds_empty}
use Rattle.propagator_core.specs.Meaning.{Meaning}
use Rattle.propagator_core.specs.Several.{AllStand}
use Rattle.trail_worlds.specs.Total.{IsTotal}
use Rattle.trail_worlds.specs.Calm.{IsCalm}
use Rattle.propagation.specs.declared.found.Found.{Found}
use Rattle.propagation.specs.Waking.{OthersRest}
use Rattle.unfounded_sets.specs.Dependence.{dependence_of}
use Rattle.unfounded_sets.specs.Loops.{IsLoopFree}
use Rattle.founded_propagation.specs.Founding.{IsMetWith, FindsFounded}
use Rattle.learning.specs.Known.{state_of}
use Rattle.learning.specs.Learning.{Lead}
use Rattle.search_core.specs.declared.event.Event.{Event}
use Rattle.search_core.specs.declared.event.Event.TheVariants as event
use Rattle.search_core.specs.declared.room.Room.{Room}
use Rattle.search_core.specs.declared.descend.Bottom.{Bottom}
use Rattle.search_core.specs.declared.descend.Bottom.TheVariants as bottom
use Rattle.search_core.specs.Searching.{Searching}
use Rattle.search_core.specs.inner.Invariant.{IsSearch}
use Rattle.search_core.specs.inner.Lines.{Gives, Ends as HasEnded}

-- the state that the lines so far lead to
abbrev pub state_in : {P : Type 0} → Room P → State
state_in room = state_of room.store.held room.notes

-- what callers see of it
abbrev pub searching_of : {P : Type 0} → Room P → ℕ → Bool → Searching
searching_of room conflicts spent = record { program = room.ground; state = state_in room; conflicts = conflicts; spent = spent }

abbrev pub meanings_in : {P : Type 0} → (P → Meaning) → Room P → List Meaning
meanings_in meaning room = map meaning room.propagators.items

-- it is that of a search at one of its moments, the propagators stand for the trail, it is closed where the empty nogood is held, and loops are sought by the program's dependence
pub record IsRoom {P : Type 0} (meaning : P → Meaning) (stands : P → Ends → List Entry → Type 0) (looked : P → ℕ) (room : Room P) : Type 0 where
  pub search : IsSearch room.ground room.notes room.store room.trail (map meaning room.propagators.items) room.wakes
  pub stand : AllStand stands looked room.propagators.items room.trail
  pub count : room.awake.count ≡ length room.propagators.items
  pub closed : room.closed ≡ holds_empty (state_of room.store.held room.notes)
  pub loops : room.loops ≡ dependence_of room.ground

-- each propagator is awake or rests
abbrev pub IsRested : {P : Type 0} → (P → Meaning) → Room P → Type 0
IsRested meaning room = OthersRest room.awake.places (map meaning room.propagators.items) room.trail

-- the program, what is held and what is known stay the same
pub record Keeps {P : Type 0} (old new : Room P) : Type 0 where
  pub program : new.ground ≡ old.ground
  pub notes : new.notes ≡ old.notes
  pub held : new.store.held ≡ old.store.held
  pub closed : new.closed ≡ old.closed

-- what propagation found
abbrev pub IsFound : {P : Type 0} → (P → Meaning) → Room P → Found → Type 0
IsFound meaning room found = FindsFounded room.store.held (map meaning room.propagators.items) room.loops room.trail room.awake.places found

-- all is decided, nothing is left to propagate and no set of atoms is unfounded
abbrev pub IsBottom : {P : Type 0} → (P → Meaning) → Room P → Type 0
IsBottom meaning room = IsTotal room.trail × IsCalm room.store.held (map meaning room.propagators.items) room.trail × IsLoopFree room.loops room.trail

-- whether a literal was decided: then the trail is longer, and can be counted; else all is decided
abbrev pub Decides : {P : Type 0} → (P → Meaning) → Room P → Room P → Bool → Type 0
Decides meaning old new true = IsRested meaning new × (length old.trail.entries < length new.trail.entries) × (length old.trail.entries < 2 ^ 64)
Decides meaning old new false = IsBottom meaning new

-- all literals of the nogood are true
abbrev pub IsMet : {P : Type 0} → (P → Meaning) → Room P → Start → Type 0
IsMet meaning room from = IsMetWith room.store.held (map meaning room.propagators.items) room.loops room.trail from

-- how a descent ended
abbrev pub Bottoms : {P : Type 0} → (P → Meaning) → Room P → Bottom → Type 0
Bottoms meaning room bottom.Total = IsBottom meaning room
Bottoms meaning room (bottom.Conflict from) = IsMet meaning room from

-- what a turn came to: something was learned, an answer was given, or the search was ended
abbrev pub Turns : {P : Type 0} → Room P → Room P → Option Event → Type 0
Turns old new None = Lead old.ground (state_in old) (state_in new) 1
Turns old new (Some (event.Answer answer)) = Gives old.ground (state_in old) (state_in new) answer
Turns old new (Some event.Exhausted) = HasEnded old.ground (state_in old) (state_in new)

-- it is one from which the search can go on
pub record GoesOn {P : Type 0} (meaning : P → Meaning) (stands : P → Ends → List Entry → Type 0) (looked : P → ℕ) (room : Room P) : Type 0 where
  pub is_room : IsRoom meaning stands looked room
  pub rested : room.closed ≡ false → IsRested meaning room

-- it can go on, if the turn did not end it
abbrev pub StaysOn : {P : Type 0} → (P → Meaning) → (P → Ends → List Entry → Type 0) → (P → ℕ) → Room P → Option Event → Type 0
StaysOn meaning stands looked room (Some event.Exhausted) = Unit {0}
StaysOn meaning stands looked room other = GoesOn meaning stands looked room

-- all but the end comes where the room is not closed
abbrev pub ComesWhen : Option Event → Bool → Type 0
ComesWhen (Some event.Exhausted) closed = Unit {0}
ComesWhen other closed = closed ≡ false
