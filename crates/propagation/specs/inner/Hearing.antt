-- Who is woken by what is set. Only the code of this crate reads this file.
use Rattle.std.specs.Prelude.{◌≡◌, ℕ, ◌<◌, ◌≤◌, true, List, [], get_or, slice_get, Some, Contains}
use Rattle.literals.specs.declared.lit.Lit.{Lit}
use Rattle.trail.specs.declared.entry.Entry.{Entry}
use Rattle.propagator_core.specs.declared.touch.Touch.{Touch}
use Rattle.propagator_core.specs.Touching.{is_touched}
use Rattle.propagator_core.specs.Meaning.{Meaning}
use Rattle.propagator_core.specs.Quiet.{IsSteady}
use Rattle.propagation.specs.Waking.{Rows, row_of}

-- those that look at the literal are awake
abbrev pub IsHeard : List Meaning → List ℕ → Lit → Type 0
IsHeard ms places l = (i : ℕ) (m : Meaning) → slice_get ms i ≡ Some m → is_touched m.touches l ≡ true → Contains places i

-- those that look at one of these entries, from the first place on and before the other, are awake
abbrev pub AreHeard : List Meaning → List ℕ → List Entry → ℕ → ℕ → Type 0
AreHeard ms places entries from to = (k : ℕ) (e : Entry) → from ≤ k → k < to → slice_get entries k ≡ Some e → IsHeard ms places e.lit

-- all that were awake still are
abbrev pub IsKept : List ℕ → List ℕ → Type 0
IsKept old new = (i : ℕ) → Contains old i → Contains new i

-- all that stood in a row still do
abbrev pub AreKept : Rows → Rows → Type 0
AreKept old new = (touch : Touch) → IsKept (row_of old touch) (row_of new touch)

-- so it is in each of these rows
abbrev pub EachIsKept : List (List ℕ) → List (List ℕ) → Type 0
EachIsKept old new = (at : ℕ) → IsKept (get_or old at []) (get_or new at [])

-- the propagator stands in the rows of these
abbrev pub StandsIn : Rows → ℕ → List Touch → Type 0
StandsIn rows place touches = (touch : Touch) → Contains touches touch → Contains (row_of rows touch) place

-- each of the first so many propagators stands in the rows of all that it looks at
abbrev pub FirstAreWakes : ℕ → Rows → List Meaning → Type 0
FirstAreWakes count rows ms = (i : ℕ) (m : Meaning) → i < count → slice_get ms i ≡ Some m → StandsIn rows i m.touches

-- and keeps quiet where it rests
abbrev pub FirstAreSteady : ℕ → List Meaning → Type 0
FirstAreSteady count ms = (i : ℕ) (m : Meaning) → i < count → slice_get ms i ≡ Some m → IsSteady m
