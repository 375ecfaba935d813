-- What is left to propagate at the levels of a trail.
use Rattle.std.specs.Prelude.{ℕ, ◌<◌, List}
use Rattle.trail.specs.Assignment.{Assignment, undone_to}
use Rattle.nogood_store.specs.Holding.{Held}
use Rattle.propagator_core.specs.Meaning.{Meaning}
use Rattle.trail_worlds.specs.Calm.{IsCalm}

-- nothing is left to propagate at each level below the open one
abbrev pub IsCalmBelow : List Held → List Meaning → Assignment → Type 0
IsCalmBelow held ms t = (level : ℕ) → level < t.level → IsCalm held ms (undone_to level t)
