-- What propagation may add to a trail, and how it ends.
use Rattle.std.specs.Prelude.{◌≡◌, ◌⊎◌, ℕ, ◌+◌, List, []}
use Rattle.trail.specs.declared.entry.Entry.{Entry}
use Rattle.trail.specs.Assignment.{Assignment}
use Rattle.nogood_store.specs.Holding.{Held}
use Rattle.nogood_store.specs.Propagation.{IsForced, IsConflict as IsMet}
use Rattle.conflict_analysis.specs.declared.learned.Start.{Start}
use Rattle.conflict_analysis.specs.declared.learned.Start.TheVariants as start
use Rattle.propagator_core.specs.Meaning.{Meaning}
use Rattle.propagator_core.specs.Shown.{IsShown, IsConflict}
use Rattle.propagator_core.specs.Several.{some_valid}
use Rattle.trail_worlds.specs.Calm.{IsCalm}
use Rattle.propagation.specs.declared.found.Found.{Found}
use Rattle.propagation.specs.declared.found.Found.TheVariants.{Calm, Conflict}

-- an entry that propagation may add: a held nogood forces it, or a reason that one of the propagators calls valid
abbrev pub IsCaused : List Held → List Meaning → Assignment → Entry → Type 0
IsCaused held ms t e = IsForced held t e ⊎ IsShown (some_valid ms) t e

-- all literals of the held nogood are true on the trail, or all literals of a reason that one of the propagators calls valid
abbrev pub IsMetBy : List Held → List Meaning → Assignment → Start → Type 0
IsMetBy held ms t (start.Held id) = IsMet held t id
IsMetBy held ms t (start.Shown reason) = IsConflict (some_valid ms) t reason

-- nothing is left to propagate and none is awake, or all literals of a nogood are true
abbrev pub Finds : List Held → List Meaning → Assignment → List ℕ → Found → Type 0
Finds held ms t awake Calm = IsCalm held ms t × (awake ≡ [])
Finds held ms t awake (Conflict from) = IsMetBy held ms t from

-- the trail at the next level
abbrev pub opened : Assignment → Assignment
opened t = record t { level = t.level + 1 }
