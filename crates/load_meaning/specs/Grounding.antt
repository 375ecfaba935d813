-- What a program grounds to: the first cause for which it is refused, or its canonical ground program.
use Rattle.std.specs.Prelude.{ℕ, List}
use Rattle.symbols.specs.declared.ends.Ends.{Ends}
use Rattle.program_meaning.specs.Read.{ReadRule, ReadProgram}
use Rattle.program_meaning.specs.Substitution.{Key}
use Rattle.program_meaning.specs.Canonical.{GroundView, IsCanonical}
use Rattle.program_meaning.specs.Count.{ExceedsLimit}
use Rattle.program_meaning.specs.Outside.{Cause, IsSomehowOutside, IsFirstOutside, HasTooManyVariables, HasLargeObjective, IsWithinLimits}

-- what grounding ends with, in the order in which it is looked for: more instances than the limit, the first instance that is outside,
-- too many integer variables, too large an objective, or the ground program
pub data Grounded : Type 0 where
  OverLimit : Grounded
  OutsideAt : Key → Cause → Grounded
  TooManyVariables : Grounded
  ObjectiveTooLarge : Grounded
  Canonical : GroundView → Grounded

-- the ground count is within the limit
abbrev pub IsCountWithin : List ReadRule → ℕ → Type 0
IsCountWithin rules limit = ExceedsLimit rules limit → ⊥

-- no instance is outside
abbrev pub IsNoneOutside : List ReadRule → Ends → Type 0
IsNoneOutside rules ends = (key : Key) → IsSomehowOutside rules ends key → ⊥

-- the program grounds to this: each cause stands only where none before it does
abbrev pub GroundsTo : ReadProgram → Ends → ℕ → Grounded → Type 0
GroundsTo program ends limit OverLimit = ExceedsLimit program.rules limit
GroundsTo program ends limit (OutsideAt key cause) = IsCountWithin program.rules limit × IsFirstOutside program.rules ends key cause
GroundsTo program ends limit TooManyVariables =
    IsCountWithin program.rules limit × IsNoneOutside program.rules ends × HasTooManyVariables program.rules
GroundsTo program ends limit ObjectiveTooLarge =
    IsCountWithin program.rules limit × IsNoneOutside program.rules ends × (HasTooManyVariables program.rules → ⊥) × HasLargeObjective program.rules
GroundsTo program ends limit (Canonical view) = IsWithinLimits program.rules ends limit × IsCanonical program view
