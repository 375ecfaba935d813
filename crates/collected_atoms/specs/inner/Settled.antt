-- What is known of a theory atom step by step.
use Rattle.std.specs.Prelude.{◌≡◌, ℕ, Bool, true, false, ℤ, List, [], ◌++◌, map, Option, None, Some, Result}
use Rattle.std.specs.List.{flat_map}
use Rattle.symbols.specs.Symbol.{Symbol}
use Rattle.symbols.specs.declared.rel.Rel.{Rel}
use Rattle.syntax_tree.specs.declared.literal.Guard.{Guard}
use Rattle.syntax_tree.specs.declared.literal.TheoryName.{TheoryName}
use Rattle.syntax_tree.specs.declared.literal.TheoryName.TheVariants as name
use Rattle.syntax_tree.specs.Outcome.{Outcome}
use Rattle.ground_model.specs.Members.{IsMember, IsListOf}
use Rattle.ground_model.specs.Rule.{LinearOf, PlaceOf}
use Rattle.program_meaning.specs.declared.collected.CollectedPlace.{CollectedPlace}
use Rattle.program_meaning.specs.Ascending.{IsOrderedListOf}
use Rattle.program_meaning.specs.Read.{ReadElement, ReadTheory, ReadRule}
use Rattle.program_meaning.specs.Substitution.{Value, Key}
use Rattle.program_meaning.specs.Collected.{collected, is_small_form}
use Rattle.program_meaning.specs.Theory.{HasForm, place_cmp, first_large}
use Rattle.program_meaning.specs.Instance.{bound_in, bound_in_element, IsRelevantElement}
use Rattle.program_meaning.specs.Tuples.{IsTuple, IsRange}
use Rattle.program_meaning.specs.Outside.{difference}
use Rattle.program_meaning.specs.Said.{linear_in, place_in}
use Rattle.interval_sets.specs.Ranges.{range_cmp}
use Rattle.collected_elements.specs.declared.judged.JudgedTerm.{JudgedTerm}
use Rattle.collected_elements.specs.declared.judged.JudgedTerm.TheVariants as term
use Rattle.theory_laws.specs.Collecting.{IsAtomOver, IsAtomNotLinear, HasManyElements, IsAtomLarge, IsOneVariable}
use Rattle.collected_atoms.specs.declared.atom.AtomStop.{AtomStop}
use Rattle.collected_atoms.specs.declared.atom.CollectedAtom.{CollectedAtom}
use Rattle.collected_atoms.specs.declared.atom.CollectedGuard.{CollectedGuard}
use Rattle.collected_atoms.specs.declared.gathering.Gathered.{Gathered}
use Rattle.collected_atoms.specs.declared.gathering.JudgedGuard.{JudgedGuard}
use Rattle.collected_atoms.specs.declared.settling.SettledGuard.{SettledGuard}
use Rattle.collected_atoms.specs.Said.{guard_in, IsKnownRight}
use Rattle.collected_atoms.specs.Gathering.{IsAnswer}

-- GUARDS

abbrev pub IsCrookedTerm : JudgedTerm → Type 0
IsCrookedTerm term.NotLinear = Unit {0}
IsCrookedTerm other = ⊥

abbrev pub IsCrooked : Option JudgedGuard → Type 0
IsCrooked None = ⊥
IsCrooked (Some guard) = IsCrookedTerm guard.right

abbrev pub IsSettledBy : Rel → JudgedTerm → SettledGuard → Type 0
IsSettledBy rel term.NotLinear settled = ⊥
IsSettledBy rel term.Large settled = (settled.large ≡ true) × (settled.guard ≡ None)
IsSettledBy rel (term.Form right) settled = (settled.large ≡ false) × (settled.guard ≡ Some (record { rel = rel; right = right }))

abbrev pub IsSettledOf : Option JudgedGuard → SettledGuard → Type 0
IsSettledOf None settled = (settled.large ≡ false) × (settled.guard ≡ None)
IsSettledOf (Some guard) settled = IsSettledBy guard.rel guard.right settled

abbrev pub IsKnownSettled : List Symbol → SettledGuard → Type 0
IsKnownSettled symbols settled = IsKnownRight symbols settled.guard

-- a guard that is too large, or its right side
abbrev pub IsGuardIn : List Symbol → List Outcome → Option Guard → Bool → Option CollectedGuard → Type 0
IsGuardIn symbols bound None large None = large ≡ false
IsGuardIn symbols bound None large (Some right) = ⊥
IsGuardIn symbols bound (Some guard) large None = (large ≡ true) × ((collected bound guard.right).large ≡ true)
IsGuardIn symbols bound (Some guard) large (Some right) =
    (large ≡ false) × (right.rel ≡ guard.rel) × HasForm (collected bound guard.right) (linear_in symbols right.right)

-- VARIABLES

abbrev pub ids_of : List (ℕ × ℤ) → List ℕ
ids_of pairs = map (λ pair. pair.0) pairs

abbrev pub guard_ids : Option CollectedGuard → List ℕ
guard_ids None = []
guard_ids (Some guard) = ids_of guard.right.pairs

abbrev pub all_ids : List CollectedPlace → Option CollectedGuard → List ℕ
all_ids places guard = flat_map (λ place. ids_of place.linear.pairs) places ++ guard_ids guard

-- TOTALS

abbrev pub is_small_beside : List (PlaceOf Symbol) → Option (Rel × LinearOf Symbol) → Bool
is_small_beside places None = true
is_small_beside places (Some guard) = is_small_form (difference places guard.1)

abbrev pub is_small_by : TheoryName → List (PlaceOf Symbol) → Option (Rel × LinearOf Symbol) → Bool
is_small_by name.Sum places guard = is_small_beside places guard
is_small_by name.Diff places guard = is_small_beside places guard
is_small_by other places guard = true

-- STEPS

-- nothing is over and all is linear
pub record IsLinear (symbols : List Symbol) (P : Symbol → Type 0) (rule : ReadRule) (values : List Value) (theory : ReadTheory)
    (gathered : Gathered) (settled : SettledGuard) : Type 0 where
  pub over : IsAtomOver P rule values theory → ⊥
  pub linear : IsAtomNotLinear P rule values theory → ⊥
  pub tuples : (theory.name ≡ name.Dom → ⊥) → IsListOf (IsTuple P rule values theory) (map (place_in symbols) gathered.places)
  pub ranges : theory.name ≡ name.Dom → IsListOf (IsRange P rule values theory) gathered.ranges
  pub large : gathered.large ≡ true → IsAtomLarge P rule values theory
  pub small : gathered.large ≡ false → (key : Key) (read : ReadElement) → IsRelevantElement P rule values theory key read
      → first_large theory.name (bound_in_element rule values read key.values) read.first ≡ true → ⊥
  pub guard : IsGuardIn symbols (bound_in rule values) theory.guard settled.large settled.guard
  pub variable : theory.name ≡ name.Dom → IsOneVariable (guard_in symbols settled.guard)

abbrev pub CollectsLinear : List Symbol → TheoryName → Gathered → SettledGuard → Result CollectedAtom AtomStop → Type 0
CollectsLinear symbols kind gathered settled result =
    (atoms : List Symbol) (rule : ReadRule) (values : List Value) (theory : ReadTheory) → theory.name ≡ kind
    → IsLinear symbols (IsMember atoms) rule values theory gathered settled → IsAnswer symbols (IsMember atoms) rule values theory result

-- and there are few tuples, or ranges, and few variables
pub record IsSized (symbols : List Symbol) (P : Symbol → Type 0) (rule : ReadRule) (values : List Value) (theory : ReadTheory)
    (large : Bool) (guard : Option CollectedGuard) : Type 0 where
  pub over : IsAtomOver P rule values theory → ⊥
  pub linear : IsAtomNotLinear P rule values theory → ⊥
  pub few : HasManyElements P rule values theory → ⊥
  pub is_large : large ≡ true → IsAtomLarge P rule values theory
  pub small : large ≡ false → (key : Key) (read : ReadElement) → IsRelevantElement P rule values theory key read
      → first_large theory.name (bound_in_element rule values read key.values) read.first ≡ true → ⊥
  pub small_guard : large ≡ false → IsGuardIn symbols (bound_in rule values) theory.guard false guard
  pub variable : theory.name ≡ name.Dom → IsOneVariable (guard_in symbols guard)

abbrev pub CollectsSized : List Symbol → TheoryName → List CollectedPlace → Bool → Option CollectedGuard → Result CollectedAtom AtomStop → Type 0
CollectsSized symbols kind places large guard result =
    (atoms : List Symbol) (rule : ReadRule) (values : List Value) (theory : ReadTheory) → theory.name ≡ kind
    → IsSized symbols (IsMember atoms) rule values theory large guard
    → IsOrderedListOf place_cmp (IsTuple (IsMember atoms) rule values theory) (map (place_in symbols) places) → IsAnswer symbols (IsMember atoms) rule values theory result

abbrev pub CollectsRanges : List Symbol → List (ℤ × ℤ) → Bool → Option CollectedGuard → Result CollectedAtom AtomStop → Type 0
CollectsRanges symbols ranges large guard result =
    (atoms : List Symbol) (rule : ReadRule) (values : List Value) (theory : ReadTheory) → theory.name ≡ name.Dom
    → IsSized symbols (IsMember atoms) rule values theory large guard
    → IsOrderedListOf range_cmp (IsRange (IsMember atoms) rule values theory) ranges → IsAnswer symbols (IsMember atoms) rule values theory result
