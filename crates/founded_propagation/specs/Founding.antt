-- What propagation may add to a trail, and how it ends, where it looks for unfounded sets as well.
use Rattle.std.specs.Prelude.{◌≡◌, ◌⊎◌, ℕ, ◌||◌, Bool, List, []}
use Rattle.literals.specs.declared.reason.Reason.{Reason}
use Rattle.trail.specs.declared.shape.Shape.{Shape}
use Rattle.trail.specs.declared.entry.Entry.{Entry}
use Rattle.trail.specs.Assignment.{Assignment}
use Rattle.nogood_store.specs.Holding.{Held}
use Rattle.nogood_store.specs.Propagation.{IsForced, IsConflict as IsMet}
use Rattle.conflict_analysis.specs.declared.learned.Start.{Start}
use Rattle.conflict_analysis.specs.declared.learned.Start.TheVariants as start
use Rattle.propagator_core.specs.Meaning.{Meaning}
use Rattle.propagator_core.specs.Shown.{IsShown, IsConflict}
use Rattle.propagator_core.specs.Several.{some_valid}
use Rattle.trail_worlds.specs.Calm.{IsCalm}
use Rattle.unfounded_sets.specs.Dependence.{Dependence}
use Rattle.unfounded_sets.specs.Loops.{shows_loop, IsLoopFree}
use Rattle.propagation.specs.declared.found.Found.{Found}
use Rattle.propagation.specs.declared.found.Found.TheVariants.{Calm, Conflict}

-- one of the propagators calls the reason valid, or the dependence shows it by a loop
abbrev pub valid_with : List Meaning → Dependence → Shape → Reason → Bool
valid_with ms d s r = some_valid ms s r || shows_loop d r

-- an entry that propagation may add: a held nogood forces it, or a reason that is valid in this way
abbrev pub IsCausedWith : List Held → List Meaning → Dependence → Assignment → Entry → Type 0
IsCausedWith held ms d t e = IsForced held t e ⊎ IsShown (valid_with ms d) t e

-- all literals of the held nogood are true on the trail, or all literals of a reason that is valid in this way
abbrev pub IsMetWith : List Held → List Meaning → Dependence → Assignment → Start → Type 0
IsMetWith held ms d t (start.Held id) = IsMet held t id
IsMetWith held ms d t (start.Shown reason) = IsConflict (valid_with ms d) t reason

-- nothing is left to propagate, no set of atoms is unfounded and none is awake, or all literals of a nogood are true
abbrev pub FindsFounded : List Held → List Meaning → Dependence → Assignment → List ℕ → Found → Type 0
FindsFounded held ms d t awake Calm = IsCalm held ms t × IsLoopFree d t × (awake ≡ [])
FindsFounded held ms d t awake (Conflict from) = IsMetWith held ms d t from
