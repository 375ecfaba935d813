-- What the code gives on its way.
use Rattle.std.specs.Prelude.{◌≡◌, ℕ, List, Result, Ok, Err}
use Rattle.inputs.specs.declared.parsing.WrittenStop.{WrittenStop}
use Rattle.inputs.specs.declared.parsing.WrittenStop.TheVariants as unwritten
use Rattle.inputs.specs.declared.parsing.ProgramStop.{ProgramStop}
use Rattle.inputs.specs.declared.parsing.ProgramStop.TheVariants as refusal
use Rattle.inputs.specs.Texts.{HasFirstFault}

abbrev pub IsFirstFault : List (List ℕ) → WrittenStop → Type 0
IsFirstFault texts (unwritten.Fault at fault) = HasFirstFault texts at fault
IsFirstFault texts unwritten.Memory = Unit {0}

-- a refusal with the line that was made, where memory could be had for it
abbrev pub IsRefusalWith : {E : Type 0} → Result (List ℕ) E → ProgramStop → Type 0
IsRefusalWith (Ok line) (refusal.Refused printed) = printed ≡ line
IsRefusalWith (Ok line) refusal.Memory = ⊥
IsRefusalWith (Err fault) (refusal.Refused printed) = ⊥
IsRefusalWith (Err fault) refusal.Memory = Unit {0}
