-- Which propagators are to be called again, and which rest.
use Rattle.std.specs.Prelude.{◌≡◌, ℕ, ◌<◌, ◌⊎◌, IsTrue, List, [], length, get_or, slice_get, Some, Contains}
use Rattle.std.specs.List.{All, AllByRecursion}
use Rattle.trail.specs.declared.shape.Shape.{Shape}
use Rattle.trail.specs.Assignment.{Assignment}
use Rattle.propagator_core.specs.declared.touch.Touch.{Touch}
use Rattle.propagator_core.specs.declared.touch.Touch.TheVariants.{Bounds, Truth}
use Rattle.propagator_core.specs.Meaning.{Meaning}
use Rattle.propagator_core.specs.Quiet.{IsSteady}

-- for each variable the propagators that look at its bounds, and for each constraint those that look at its truth
pub record Rows : Type 0 where
  pub bounds : List (List ℕ)
  pub truths : List (List ℕ)

-- those that look at it
abbrev pub row_of : Rows → Touch → List ℕ
row_of rows (Bounds x) = get_or rows.bounds x []
row_of rows (Truth c) = get_or rows.truths c []

-- each row names some of so many propagators
abbrev pub AreWithin : ℕ → List (List ℕ) → Type 0
AreWithin count rows = AllByRecursion (AllByRecursion (λ i. i < count)) rows

-- there is a row for each variable and each constraint of the shape, and each names propagators
pub record HasRows (s : Shape) (count : ℕ) (rows : Rows) : Type 0 where
  pub bounds : s.variables < length rows.bounds
  pub truths : s.constraints < length rows.truths
  pub bounds_within : AreWithin count rows.bounds
  pub truths_within : AreWithin count rows.truths

-- each propagator stands in the rows of all that it looks at
abbrev pub AreWakes : Rows → List Meaning → Type 0
AreWakes rows ms = (i : ℕ) (m : Meaning) (touch : Touch) → slice_get ms i ≡ Some m → Contains m.touches touch → Contains (row_of rows touch) i

-- each propagator is awake or rests on the trail
abbrev pub OthersRest : List ℕ → List Meaning → Assignment → Type 0
OthersRest places ms t = (i : ℕ) (m : Meaning) → slice_get ms i ≡ Some m → Contains places i ⊎ IsTrue (m.rests t)

-- if each propagator that was not awake rested on the old trail, the same holds of the new one
abbrev pub KeepsRest : Rows → List Meaning → List ℕ → List ℕ → Assignment → Assignment → Type 0
KeepsRest rows ms before after old new = AreWakes rows ms → All IsSteady ms → OthersRest before ms old → OthersRest after ms new
