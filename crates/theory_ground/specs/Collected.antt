-- Why a theory atom has no collected form.
use Rattle.std.specs.Prelude.{ℕ, List}
use Rattle.symbols.specs.Symbol.{Symbol}
use Rattle.program_meaning.specs.Ascending.{Exceeds}
use Rattle.program_meaning.specs.Read.{ReadTheory, ReadRule}
use Rattle.program_meaning.specs.Substitution.{Value}
use Rattle.theory_laws.specs.Collecting.{IsElementKey, IsFirstOf}
use Rattle.collected_atoms.specs.Said.{cause_of}
use Rattle.theory_ground.specs.declared.collecting.CollectStop.{CollectStop}
use Rattle.theory_ground.specs.declared.collecting.CollectStop.TheVariants as stop

-- it has more element instances, or this first cause
abbrev pub IsStopOf : (Symbol → Type 0) → ReadRule → List Value → ReadTheory → ℕ → CollectStop → Type 0
IsStopOf P rule values theory most stop.TooMany = Exceeds (IsElementKey P rule values theory) most
IsStopOf P rule values theory most (stop.Outside cause) = IsFirstOf P rule values theory (cause_of cause)
IsStopOf P rule values theory most stop.Memory = Unit {0}
