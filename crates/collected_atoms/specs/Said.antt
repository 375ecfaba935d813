-- What is said of a collected theory atom.
use Rattle.std.specs.Prelude.{List, map, Option, None, Some}
use Rattle.std.specs.List.{AllByRecursion}
use Rattle.symbols.specs.Symbol.{Symbol}
use Rattle.symbols.specs.declared.rel.Rel.{Rel}
use Rattle.ground_model.specs.Rule.{LinearOf}
use Rattle.program_meaning.specs.Read.{ReadTheory, ReadRule}
use Rattle.program_meaning.specs.Substitution.{Value}
use Rattle.program_meaning.specs.Said.{linear_in, place_in}
use Rattle.program_meaning.specs.Outside.{Cause, Overflow, NotLinear, TooManyElements, TooLarge}
use Rattle.collected_terms.specs.Found.{IsKnownLinear}
use Rattle.collected_elements.specs.Judged.{IsKnownPlace}
use Rattle.theory_laws.specs.Collecting.{IsCollected}
use Rattle.collected_atoms.specs.declared.atom.OutsideCause.{OutsideCause}
use Rattle.collected_atoms.specs.declared.atom.OutsideCause.TheVariants as cause
use Rattle.collected_atoms.specs.declared.atom.CollectedGuard.{CollectedGuard}
use Rattle.collected_atoms.specs.declared.atom.CollectedAtom.{CollectedAtom}

abbrev pub cause_of : OutsideCause → Cause
cause_of cause.Overflow = Overflow
cause_of cause.NotLinear = NotLinear
cause_of cause.TooManyElements = TooManyElements
cause_of cause.TooLarge = TooLarge

-- a guard, each id in it read in a table
abbrev pub guard_in : List Symbol → Option CollectedGuard → Option (Rel × LinearOf Symbol)
guard_in symbols None = None
guard_in symbols (Some guard) = Some (guard.rel, linear_in symbols guard.right)

-- the theory atom has this collected form, each id in it read in a table
abbrev pub IsAtomIn : List Symbol → (Symbol → Type 0) → ReadRule → List Value → ReadTheory → CollectedAtom → Type 0
IsAtomIn symbols P rule values theory atom =
    IsCollected P rule values theory (map (place_in symbols) atom.places) atom.numbers.intervals (guard_in symbols atom.guard)

-- the ids are of the table, variables ascend, and numbers are small
abbrev pub IsKnownRight : List Symbol → Option CollectedGuard → Type 0
IsKnownRight symbols None = Unit {0}
IsKnownRight symbols (Some guard) = IsKnownLinear symbols guard.right

pub record IsKnownAtom (symbols : List Symbol) (atom : CollectedAtom) : Type 0 where
  pub places : AllByRecursion (IsKnownPlace symbols) atom.places
  pub guard : IsKnownRight symbols atom.guard
