-- One theory atom under an instance of its rule: its element instances, its causes, and its collected form.
use Rattle.std.specs.Prelude.{◌≡◌, ◌⊎◌, ◌↔◌, true, ℤ, List, Option, None, Some, nat_le, length}
use Rattle.symbols.specs.Symbol.{Symbol}
use Rattle.symbols.specs.declared.rel.Rel.{Rel}
use Rattle.syntax_tree.specs.declared.literal.Guard.{Guard}
use Rattle.syntax_tree.specs.declared.literal.TheoryName.TheVariants as name
use Rattle.syntax_tree.specs.Outcome.{Outcome}
use Rattle.ground_model.specs.Intervals.{are_parted, lies_in}
use Rattle.ground_model.specs.Members.{IsMember}
use Rattle.ground_model.specs.Rule.{LinearOf, PlaceOf}
use Rattle.ground_model.specs.Sound.{most}
use Rattle.program_meaning.specs.Read.{ReadElement, ReadTheory, ReadRule}
use Rattle.program_meaning.specs.Ascending.{Exceeds}
use Rattle.program_meaning.specs.Substitution.{Value, Key}
use Rattle.program_meaning.specs.Collected.{variable_form}
use Rattle.program_meaning.specs.Theory.{guard_over, guard_not_linear, guard_large, element_not_linear, first_large}
use Rattle.program_meaning.specs.Instance.{bound_in, bound_in_element, IsRelevantElement}
use Rattle.program_meaning.specs.Tuples.{IsInDomain}
use Rattle.program_meaning.specs.Ground.{TuplesAs, GuardAs}
use Rattle.program_meaning.specs.Outside.{is_element_over, HasManyTuples, IsVariableIn, HasLargeTotal, Cause, Overflow, NotLinear, TooManyElements, TooLarge, causes_before}

-- ELEMENT INSTANCES

-- the key of a relevant instance of one of its elements
abbrev pub IsElementKey : (Symbol → Type 0) → ReadRule → List Value → ReadTheory → Key → Type 0
IsElementKey P rule values theory key = (element : ReadElement) × IsRelevantElement P rule values theory key element

-- CAUSES

-- its guard is over, or a relevant instance of an element
pub data IsAtomOver (P : Symbol → Type 0) (rule : ReadRule) (values : List Value) (theory : ReadTheory) : Type 0 where
  GuardIsOver : guard_over (bound_in rule values) theory.guard ≡ true → IsAtomOver P rule values theory
  ElementIsOver : (key : Key) (element : ReadElement) → IsRelevantElement P rule values theory key element
      → is_element_over rule values theory element key.values ≡ true → IsAtomOver P rule values theory

-- its guard is not linear, or a relevant instance of an element
pub data IsAtomNotLinear (P : Symbol → Type 0) (rule : ReadRule) (values : List Value) (theory : ReadTheory) : Type 0 where
  GuardIsNotLinear : guard_not_linear theory.name (bound_in rule values) theory.guard ≡ true → IsAtomNotLinear P rule values theory
  ElementIsNotLinear : (key : Key) (element : ReadElement) → IsRelevantElement P rule values theory key element
      → element_not_linear theory.name (bound_in_element rule values element key.values) element ≡ true → IsAtomNotLinear P rule values theory

-- it has more tuples, those of `&dom` its pairs of ends, or more variables than 65,536
abbrev pub HasManyElements : (Symbol → Type 0) → ReadRule → List Value → ReadTheory → Type 0
HasManyElements P rule values theory = HasManyTuples P rule values theory theory.name ⊎ Exceeds (IsVariableIn P rule values theory) most

-- a part of its guard or of a first place is too large, or its total; values over the ends aside
pub data IsAtomLarge (P : Symbol → Type 0) (rule : ReadRule) (values : List Value) (theory : ReadTheory) : Type 0 where
  GuardIsLarge : guard_large (bound_in rule values) theory.guard ≡ true → IsAtomLarge P rule values theory
  ElementIsLarge : (key : Key) (element : ReadElement) → IsRelevantElement P rule values theory key element
      → first_large theory.name (bound_in_element rule values element key.values) element.first ≡ true → IsAtomLarge P rule values theory
  TotalIsLarge : HasLargeTotal P rule values theory → IsAtomLarge P rule values theory

-- the theory atom's share of an instance's causes
abbrev pub AtomHas : (Symbol → Type 0) → ReadRule → List Value → ReadTheory → Cause → Type 0
AtomHas P rule values theory Overflow = IsAtomOver P rule values theory
AtomHas P rule values theory NotLinear = IsAtomNotLinear P rule values theory
AtomHas P rule values theory TooManyElements = HasManyElements P rule values theory
AtomHas P rule values theory TooLarge = IsAtomLarge P rule values theory

-- the first of its causes
pub record IsFirstOf (P : Symbol → Type 0) (rule : ReadRule) (values : List Value) (theory : ReadTheory) (cause : Cause) : Type 0 where
  pub has : AtomHas P rule values theory cause
  pub first : (other : Cause) → IsMember (causes_before cause) other → AtomHas P rule values theory other → ⊥

-- COLLECTED FORM

-- the guard's relation and its right side, where there is a guard
abbrev pub IsGuard : List Outcome → Option Guard → Option (Rel × LinearOf Symbol) → Type 0
IsGuard bound None None = Unit {0}
IsGuard bound None (Some found) = ⊥
IsGuard bound (Some guard) None = ⊥
IsGuard bound (Some guard) (Some found) = GuardAs bound (Some guard) found.0 found.1

-- the integers of `&dom` as at most 65,536 parted intervals
pub record AreIntervals (P : Symbol → Type 0) (rule : ReadRule) (values : List Value) (theory : ReadTheory) (intervals : List (ℤ × ℤ)) : Type 0 where
  pub parted : are_parted intervals ≡ true
  pub integers : (n : ℤ) → (lies_in intervals n ≡ true) ↔ IsInDomain P rule values theory n
  pub few : nat_le (length intervals) most ≡ true

-- a guard of `&dom` is one variable
abbrev pub IsOneVariable : Option (Rel × LinearOf Symbol) → Type 0
IsOneVariable None = Unit {0}
IsOneVariable (Some found) = (x : Symbol) × (found.1 ≡ variable_form x)

-- a theory atom without causes, in collected form: its tuples in order, or the integers of `&dom`, and its guard
pub record IsCollected (P : Symbol → Type 0) (rule : ReadRule) (values : List Value) (theory : ReadTheory)
    (places : List (PlaceOf Symbol)) (intervals : List (ℤ × ℤ)) (right : Option (Rel × LinearOf Symbol)) : Type 0 where
  pub inside : (cause : Cause) → AtomHas P rule values theory cause → ⊥
  pub tuples : (theory.name ≡ name.Dom → ⊥) → TuplesAs P rule values theory places
  pub domain : theory.name ≡ name.Dom → AreIntervals P rule values theory intervals
  pub guard : IsGuard (bound_in rule values) theory.guard right
  pub variable : theory.name ≡ name.Dom → IsOneVariable right
