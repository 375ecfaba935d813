-- How a call of one among several propagators ends. Only the code of this crate reads this file.
use Rattle.std.specs.Prelude.{◌≡◌, ℕ, ◌<◌, Bool, IsTrue, cond, List, length, get_or}
use Rattle.trail.specs.Assignment.{Assignment}
use Rattle.propagator_core.specs.Meaning.{Meaning}
use Rattle.propagator_core.specs.Shown.{IsConflict}
use Rattle.propagator_core.specs.Quiet.{IsQuiet}
use Rattle.propagator_core.specs.Several.{some_valid}
use Rattle.propagator_core.specs.declared.outcome.Outcome.{Outcome}
use Rattle.propagator_core.specs.declared.outcome.Outcome.TheVariants as outcome
use Rattle.propagator_core.specs.declared.several.Turn.{Turn}
use Rattle.propagator_core.specs.declared.several.Turn.TheVariants.{Quiet, Grown, Conflict}

-- it has nothing left to say, and it rests
abbrev pub IsDone : Meaning → Assignment → Type 0
IsDone m t = IsQuiet m t × IsTrue (m.rests t)

-- the one at this place is done and the trail as it was, or the trail grew, or all literals of a valid reason are true
abbrev pub Turns : List Meaning → ℕ → Assignment → Assignment → Turn → Type 0
Turns meanings at old new Quiet = (new ≡ old) × ((m : Meaning) → IsDone (get_or meanings at m) new)
Turns meanings at old new Grown = length old.entries < length new.entries
Turns meanings at old new (Conflict r) = IsConflict (some_valid meanings) new r

-- how a call that gave this outcome ended, where the trail is as it was or longer
abbrev pub turn_after : Outcome → Bool → Turn
turn_after (outcome.Conflict r) same = Conflict r
turn_after outcome.Narrowed same = Grown
turn_after outcome.Quiet same = cond same Quiet Grown

-- each of the first so many is done
abbrev pub FirstDone : List Meaning → ℕ → Assignment → Type 0
FirstDone meanings count t = (k : ℕ) (m : Meaning) → k < count → IsDone (get_or meanings k m) t
