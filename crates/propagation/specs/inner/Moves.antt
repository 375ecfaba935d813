-- How calls of propagators end. Only the code of this crate reads this file.
use Rattle.std.specs.Prelude.{◌≡◌, ◌⊎◌, ℕ, ◌<◌, ◌^◌, List, [], length}
use Rattle.trail.specs.Assignment.{Assignment}
use Rattle.propagator_core.specs.Meaning.{Meaning}
use Rattle.propagator_core.specs.Shown.{IsConflict}
use Rattle.propagator_core.specs.Several.{some_valid}
use Rattle.propagation.specs.declared.calls.Move.{Move}
use Rattle.propagation.specs.declared.calls.Move.TheVariants.{Done, Gone, Stuck}
use Rattle.propagation.specs.Waking.{Rows, KeepsRest}

-- how one call ended: none was awake; or the trail grew, or it is the same and fewer are awake; or all literals of a valid reason are true
abbrev pub Steps : List Meaning → Rows → Assignment → Assignment → List ℕ → List ℕ → Move → Type 0
Steps ms rows old new before after Done = (before ≡ []) × (after ≡ []) × (new ≡ old)
Steps ms rows old new before after Gone =
    KeepsRest rows ms before after old new × ((length old.entries < length new.entries) ⊎ ((new ≡ old) × (length after < length before)))
Steps ms rows old new before after (Stuck reason) = IsConflict (some_valid ms) new reason

-- how calls one after another ended: none is awake and the trail is the same; or the trail grew, and is one that can be counted; or all literals of a valid reason are true
abbrev pub Runs : List Meaning → Rows → Assignment → Assignment → List ℕ → List ℕ → Move → Type 0
Runs ms rows old new before after Done = KeepsRest rows ms before after old new × (after ≡ []) × (new ≡ old)
Runs ms rows old new before after Gone =
    KeepsRest rows ms before after old new × (length old.entries < length new.entries) × (length new.entries < 2 ^ 64)
Runs ms rows old new before after (Stuck reason) = IsConflict (some_valid ms) new reason
