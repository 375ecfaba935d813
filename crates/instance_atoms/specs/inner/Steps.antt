-- Theory atoms that are collected one by one.
use Rattle.std.specs.Prelude.{◌≡◌, ℕ, List, [], ◌∷◌, ◌++◌, Result, Ok, Err}
use Rattle.std.specs.List.{AllByRecursion, AllZip}
use Rattle.symbols.specs.Symbol.{Symbol}
use Rattle.program_meaning.specs.Ascending.{Exceeds}
use Rattle.program_meaning.specs.Read.{ReadTheory, ReadRule}
use Rattle.program_meaning.specs.Substitution.{Value}
use Rattle.theory_laws.specs.Collecting.{IsElementKey}
use Rattle.collected_atoms.specs.declared.atom.CollectedAtom.{CollectedAtom}
use Rattle.collected_atoms.specs.declared.atom.OutsideCause.{OutsideCause}
use Rattle.collected_atoms.specs.declared.atom.OutsideCause.TheVariants as cause
use Rattle.collected_atoms.specs.Said.{IsAtomIn, IsKnownAtom, cause_of}
use Rattle.theory_ground.specs.declared.collecting.CollectStop.{CollectStop}
use Rattle.theory_ground.specs.declared.collecting.CollectStop.TheVariants as stop
use Rattle.instance_atoms.specs.declared.collecting.Step.{Step}
use Rattle.instance_atoms.specs.declared.collecting.Step.TheVariants as step
use Rattle.instance_atoms.specs.Collected.{IsFirstIn}

-- the first of two causes
abbrev pub first_of : OutsideCause → OutsideCause → OutsideCause
first_of cause.Overflow other = cause.Overflow
first_of cause.NotLinear cause.Overflow = cause.Overflow
first_of cause.NotLinear other = cause.NotLinear
first_of cause.TooManyElements cause.Overflow = cause.Overflow
first_of cause.TooManyElements cause.NotLinear = cause.NotLinear
first_of cause.TooManyElements other = cause.TooManyElements
first_of cause.TooLarge other = other

abbrev pub joined : Step → OutsideCause → OutsideCause
joined (step.Atoms atoms) cause = cause
joined (step.Outside other) cause = first_of other cause

-- the theory atoms so far are collected, or this is their first cause
abbrev pub IsStep : List Symbol → (Symbol → Type 0) → ReadRule → List Value → List ReadTheory → Step → Type 0
IsStep symbols P rule values done (step.Atoms atoms) = AllZip (IsAtomIn symbols P rule values) done atoms × AllByRecursion (IsKnownAtom symbols) atoms
IsStep symbols P rule values done (step.Outside cause) = IsFirstIn P rule values done (cause_of cause)

-- one theory atom more
abbrev pub IsWithAtom : Step → CollectedAtom → Step → Type 0
IsWithAtom (step.Atoms atoms) atom next = next ≡ step.Atoms (atoms ++ atom ∷ [])
IsWithAtom (step.Outside cause) atom next = next ≡ step.Outside cause

abbrev pub IsWithStop : Step → CollectStop → Step → Type 0
IsWithStop so_far stop.TooMany next = ⊥
IsWithStop so_far (stop.Outside cause) next = next ≡ step.Outside (joined so_far cause)
IsWithStop so_far stop.Memory next = ⊥

abbrev pub IsPassedOn : CollectStop → CollectStop → Type 0
IsPassedOn stop.TooMany outer = outer ≡ stop.TooMany
IsPassedOn (stop.Outside cause) outer = ⊥
IsPassedOn stop.Memory outer = outer ≡ stop.Memory

-- a stop that is no cause
abbrev pub IsPassed : (Symbol → Type 0) → ReadRule → List Value → ReadTheory → ℕ → CollectStop → Type 0
IsPassed P rule values theory most stop.TooMany = Exceeds (IsElementKey P rule values theory) most
IsPassed P rule values theory most (stop.Outside cause) = ⊥
IsPassed P rule values theory most stop.Memory = Unit {0}

abbrev pub IsFinished : Step → Result (List CollectedAtom) CollectStop → Type 0
IsFinished (step.Atoms atoms) result = result ≡ Ok atoms
IsFinished (step.Outside cause) result = result ≡ Err (stop.Outside cause)
