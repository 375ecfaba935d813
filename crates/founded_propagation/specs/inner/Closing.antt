-- How a look for unfounded sets ends. Only the code of this crate reads this file.
use Rattle.std.specs.Prelude.{◌≡◌, ℕ, ◌<◌, Bool, List, length}
use Rattle.literals.specs.declared.reason.Reason.{Reason}
use Rattle.trail.specs.declared.shape.Shape.{Shape}
use Rattle.trail.specs.Assignment.{Assignment}
use Rattle.propagator_core.specs.Meaning.{Meaning}
use Rattle.propagator_core.specs.Shown.{IsConflict}
use Rattle.unfounded_sets.specs.Dependence.{Dependence}
use Rattle.unfounded_sets.specs.Loops.{shows_loop, IsLoopFree}
use Rattle.propagation.specs.Waking.{Rows, KeepsRest}
use Rattle.founded_propagation.specs.declared.founded.Closed.{Closed}
use Rattle.founded_propagation.specs.declared.founded.Closed.TheVariants.{Free, Grown, Stuck}

-- the dependence shows the reason by a loop
abbrev pub by_loop : Dependence → Shape → Reason → Bool
by_loop d s r = shows_loop d r

-- who rests still does
abbrev pub AllKeep : Assignment → Assignment → Type 0
AllKeep old new = (rows : Rows) (ms : List Meaning) (places : List ℕ) → KeepsRest rows ms places places old new

-- no set is unfounded, and all is as it was; or the trail grew, and who rests still does; or all literals of a loop's reason are true
abbrev pub Closes : Dependence → Assignment → Assignment → Closed → Type 0
Closes d old new Free = IsLoopFree d new × (new ≡ old)
Closes d old new Grown = AllKeep old new × (length old.entries < length new.entries)
Closes d old new (Stuck reason) = IsConflict (by_loop d) new reason
