-- Why texts are not read, and why they have no program.
use Rattle.std.specs.Prelude.{◌≡◌, ℕ, ◌<◌, List, slice_get, Some}
use Rattle.outside_io.specs.Outputs.{Input}
use Rattle.inputs.specs.declared.texts.TextsStop.{TextsStop}
use Rattle.inputs.specs.declared.texts.TextsStop.TheVariants as stop
use Rattle.inputs.specs.declared.parsing.ProgramStop.{ProgramStop}
use Rattle.inputs.specs.declared.parsing.ProgramStop.TheVariants as refusal
use Rattle.inputs.specs.Sizes.{IsTooLarge}
use Rattle.inputs.specs.Texts.{AreRefused}

-- a text is named too large only where it is the first, and so many bytes of it were taken
abbrev pub IsStoppedBy : Input → List (List ℕ) → ℕ → TextsStop → Type 0
IsStoppedBy files names taken stop.Failed = Unit {0}
IsStoppedBy files names taken (stop.TooLarge at) = (name : List ℕ) → slice_get names at ≡ Some name → IsTooLarge files names taken name
IsStoppedBy files names taken stop.Memory = Unit {0}

-- the number of a text that is too large is that of one of the texts
abbrev pub IsNumbered : ℕ → TextsStop → Type 0
IsNumbered n stop.Failed = Unit {0}
IsNumbered n (stop.TooLarge at) = at < n
IsNumbered n stop.Memory = Unit {0}

-- the line of the first refusal
abbrev pub IsRefusal : List (List ℕ) → List (List ℕ) → ProgramStop → Type 0
IsRefusal names texts (refusal.Refused line) = AreRefused names texts line
IsRefusal names texts refusal.Memory = Unit {0}
