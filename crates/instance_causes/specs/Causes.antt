-- What comes of an instance.
use Rattle.std.specs.Prelude.{ℕ, List}
use Rattle.symbols.specs.declared.ends.Ends.{Ends}
use Rattle.ground_model.specs.Members.{IsMember}
use Rattle.program_meaning.specs.Ascending.{Exceeds}
use Rattle.program_meaning.specs.Instance.{IsPossible}
use Rattle.program_meaning.specs.Outside.{HasCause, Cause}
use Rattle.program_meaning.specs.Read.{ReadTheory, ReadRule}
use Rattle.program_meaning.specs.Substitution.{Value}
use Rattle.program_meaning.specs.Tuples.{theories}
use Rattle.theory_laws.specs.Collecting.{IsElementKey}
use Rattle.collected_atoms.specs.Said.{cause_of}
use Rattle.theory_ground.specs.declared.collecting.CollectStop.{CollectStop}
use Rattle.theory_ground.specs.declared.collecting.CollectStop.TheVariants as stop
use Rattle.outside_laws.specs.Judging.{IsFirstCause}

-- it has no cause
abbrev pub IsInside : List ReadRule → Ends → ReadRule → List Value → Type 0
IsInside rules ends rule values = (cause : Cause) → HasCause (IsPossible rules) ends rule values cause → ⊥

-- one of its theory atoms has more element instances, or this is its first cause
abbrev pub IsStopAt : List ReadRule → Ends → ReadRule → List Value → ℕ → CollectStop → Type 0
IsStopAt rules ends rule values most stop.TooMany = (theory : ReadTheory) × IsMember (theories rule) theory × Exceeds (IsElementKey (IsPossible rules) rule values theory) most
IsStopAt rules ends rule values most (stop.Outside cause) = IsFirstCause (IsPossible rules) ends rule values (cause_of cause)
IsStopAt rules ends rule values most stop.Memory = Unit {0}
