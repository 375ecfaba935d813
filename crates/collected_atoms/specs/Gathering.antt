-- What the relevant instances of a theory atom's elements come to, put together.
use Rattle.std.specs.Prelude.{◌≡◌, Bool, true, false, ℤ, List, [], ◌∷◌, Option, None, Some, Result, Ok, Err}
use Rattle.std.specs.List.{AllByRecursion, flat_map, list_any}
use Rattle.symbols.specs.Symbol.{Symbol}
use Rattle.syntax_tree.specs.declared.literal.Guard.{Guard}
use Rattle.syntax_tree.specs.declared.literal.TheoryName.{TheoryName}
use Rattle.syntax_tree.specs.Outcome.{Outcome}
use Rattle.ground_model.specs.Members.{IsMember}
use Rattle.program_meaning.specs.declared.collected.CollectedPlace.{CollectedPlace}
use Rattle.program_meaning.specs.Read.{ReadElement, ReadTheory, ReadRule}
use Rattle.program_meaning.specs.Substitution.{Value, Key}
use Rattle.program_meaning.specs.Collected.{collected}
use Rattle.program_meaning.specs.Theory.{guard_not_linear}
use Rattle.program_meaning.specs.Instance.{bound_in, bound_in_element, IsRelevantElement}
use Rattle.collected_elements.specs.declared.judged.JudgedElement.{JudgedElement}
use Rattle.collected_elements.specs.declared.judged.JudgedElement.TheVariants as element
use Rattle.collected_elements.specs.Judged.{IsJudgedBy, IsJudged, IsKnownTerm, IsKnownPlace}
use Rattle.theory_laws.specs.Collecting.{IsAtomOver, IsFirstOf}
use Rattle.collected_atoms.specs.declared.atom.AtomStop.{AtomStop}
use Rattle.collected_atoms.specs.declared.atom.AtomStop.TheVariants as stop
use Rattle.collected_atoms.specs.declared.atom.CollectedAtom.{CollectedAtom}
use Rattle.collected_atoms.specs.declared.gathering.Gathered.{Gathered}
use Rattle.collected_atoms.specs.declared.gathering.JudgedGuard.{JudgedGuard}
use Rattle.collected_atoms.specs.Said.{cause_of, IsAtomIn}

-- WHAT IS GATHERED

abbrev pub is_crooked : JudgedElement → Bool
is_crooked element.NotLinear = true
is_crooked other = false

abbrev pub is_large : JudgedElement → Bool
is_large element.Large = true
is_large other = false

abbrev pub places_of : JudgedElement → List CollectedPlace
places_of (element.Tuple place) = place ∷ []
places_of other = []

abbrev pub ranges_of : JudgedElement → List (ℤ × ℤ)
ranges_of (element.Range low high) = (low, high) ∷ []
ranges_of other = []

-- all of these are put together
pub record IsGathered (all : List JudgedElement) (gathered : Gathered) : Type 0 where
  pub not_linear : gathered.not_linear ≡ list_any is_crooked all
  pub large : gathered.large ≡ list_any is_large all
  pub places : gathered.places ≡ flat_map places_of all
  pub ranges : gathered.ranges ≡ flat_map ranges_of all

abbrev pub AreKnownPlaces : List Symbol → List CollectedPlace → Type 0
AreKnownPlaces symbols places = AllByRecursion (IsKnownPlace symbols) places

-- OF A THEORY ATOM

abbrev pub IsKnownGuard : List Symbol → Option JudgedGuard → Type 0
IsKnownGuard symbols None = Unit {0}
IsKnownGuard symbols (Some guard) = IsKnownTerm symbols guard.right

-- what a guard comes to
abbrev pub IsGuardJudged : List Symbol → TheoryName → List Outcome → Option Guard → Option JudgedGuard → Type 0
IsGuardJudged symbols kind bound None None = Unit {0}
IsGuardJudged symbols kind bound None (Some judged) = ⊥
IsGuardJudged symbols kind bound (Some guard) None = ⊥
IsGuardJudged symbols kind bound (Some guard) (Some judged) =
    (judged.rel ≡ guard.rel) × IsJudgedBy symbols judged.right (collected bound guard.right) (guard_not_linear kind bound (Some guard))

-- a relevant instance of an element comes to this
pub record IsInstanceJudged (symbols : List Symbol) (P : Symbol → Type 0) (rule : ReadRule) (values : List Value) (theory : ReadTheory) (judged : JudgedElement) : Type 0 where
  pub key : Key
  pub element : ReadElement
  pub relevant : IsRelevantElement P rule values theory key element
  pub comes : IsJudged symbols theory.name (bound_in_element rule values element key.values) element judged

-- nothing in the theory atom is over; these are what the relevant instances of its elements come to, and what its guard does
pub record AreJudged (symbols : List Symbol) (P : Symbol → Type 0) (rule : ReadRule) (values : List Value) (theory : ReadTheory)
    (all : List JudgedElement) (guard : Option JudgedGuard) : Type 0 where
  pub settled : IsAtomOver P rule values theory → ⊥
  pub each : AllByRecursion (IsInstanceJudged symbols P rule values theory) all
  pub whole : (key : Key) (read : ReadElement) → IsRelevantElement P rule values theory key read
      → (judged : JudgedElement) × IsMember all judged × IsJudged symbols theory.name (bound_in_element rule values read key.values) read judged
  pub guard_is : IsGuardJudged symbols theory.name (bound_in rule values) theory.guard guard

pub record AreGathered (symbols : List Symbol) (P : Symbol → Type 0) (rule : ReadRule) (values : List Value) (theory : ReadTheory)
    (gathered : Gathered) (guard : Option JudgedGuard) : Type 0 where
  pub all : List JudgedElement
  pub together : IsGathered all gathered
  pub judged : AreJudged symbols P rule values theory all guard

-- ANSWERS

-- the collected form, or the first cause
abbrev pub IsAnswer : List Symbol → (Symbol → Type 0) → ReadRule → List Value → ReadTheory → Result CollectedAtom AtomStop → Type 0
IsAnswer symbols P rule values theory (Ok atom) = IsAtomIn symbols P rule values theory atom
IsAnswer symbols P rule values theory (Err (stop.Outside cause)) = IsFirstOf P rule values theory (cause_of cause)
IsAnswer symbols P rule values theory (Err stop.Memory) = Unit {0}

-- the answer for each theory atom of this name, over any atoms, of whose instances this is gathered
abbrev pub Collects : List Symbol → TheoryName → Gathered → Option JudgedGuard → Result CollectedAtom AtomStop → Type 0
Collects symbols kind gathered guard result =
    (atoms : List Symbol) (rule : ReadRule) (values : List Value) (theory : ReadTheory) → theory.name ≡ kind
    → AreGathered symbols (IsMember atoms) rule values theory gathered guard → IsAnswer symbols (IsMember atoms) rule values theory result
