-- Several propagators at one trail.
use Rattle.std.specs.Prelude.{ℕ, Bool, IsTrue, List}
use Rattle.std.specs.List.{All, list_any}
use Rattle.symbols.specs.declared.ends.Ends.{Ends}
use Rattle.literals.specs.declared.reason.Reason.{Reason}
use Rattle.trail.specs.declared.shape.Shape.{Shape}
use Rattle.trail.specs.declared.entry.Entry.{Entry}
use Rattle.trail.specs.Assignment.{Assignment}
use Rattle.propagator_core.specs.Meaning.{Meaning}
use Rattle.propagator_core.specs.Standing.{StandsFor}
use Rattle.propagator_core.specs.Quiet.{IsQuiet}

-- one of them calls the reason valid
abbrev pub some_valid : List Meaning → Shape → Reason → Bool
some_valid meanings shape reason = list_any (λ m. m.valid shape reason) meanings

-- the shape fits each
abbrev pub AllFit : List Meaning → Shape → Type 0
AllFit meanings shape = All (λ m. IsTrue (m.fits shape)) meanings

-- the state of each stands for the trail
abbrev pub AllStand : {X : Type 0} → (X → Ends → List Entry → Type 0) → (X → ℕ) → List X → Assignment → Type 0
AllStand stands looked all t = All (λ p. StandsFor (stands p) (looked p) t) all

-- each has nothing left to say
abbrev pub AllQuiet : List Meaning → Assignment → Type 0
AllQuiet meanings t = All (λ m. IsQuiet m t) meanings

-- each rests
abbrev pub AllRest : List Meaning → Assignment → Type 0
AllRest meanings t = All (λ m. IsTrue (m.rests t)) meanings
