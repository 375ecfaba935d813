-- The tuples of theory atoms under an instance, and the theory atoms of a rule.
use Rattle.std.specs.Prelude.{◌≡◌, ◌≤ℤ◌, ℤ, List, [], ◌∷◌, ◌++◌, Option, None, Some}
use Rattle.std.specs.List.{flat_map}
use Rattle.symbols.specs.Symbol.{Symbol}
use Rattle.syntax_tree.specs.declared.literal.Guard.{Guard}
use Rattle.syntax_tree.specs.declared.literal.TheoryName.TheVariants as name
use Rattle.syntax_tree.specs.Outcome.{Outcome}
use Rattle.ground_model.specs.Members.{IsMember}
use Rattle.ground_model.specs.Rule.{LinearOf, PlaceOf}
use Rattle.program_meaning.specs.Read.{ReadElement, ReadTheory, ReadLiteral, ReadPlain, ReadTold, ReadHead, ReadDuty, ReadRule}
use Rattle.program_meaning.specs.Substitution.{Value, Key}
use Rattle.program_meaning.specs.Comparison.{IsSpan, span_of}
use Rattle.program_meaning.specs.Collected.{collected}
use Rattle.program_meaning.specs.Theory.{HasForm, HasTuple}
use Rattle.program_meaning.specs.Instance.{bound_in_element, IsRelevantElement}

-- THEORY ATOMS

abbrev pub told_in : ReadLiteral → List ReadTheory
told_in (ReadPlain literal) = []
told_in (ReadTold theory sign) = theory ∷ []

abbrev pub duty_in : ReadHead → List ReadTheory
duty_in (ReadDuty theory) = theory ∷ []
duty_in head = []

-- the theory atoms of a rule: those of its body in order, and that of its head
abbrev pub theories : ReadRule → List ReadTheory
theories rule = flat_map told_in rule.body ++ duty_in rule.head

-- TUPLES

-- a tuple of the theory atom: some relevant instance of an element has it
abbrev pub IsTuple : (Symbol → Type 0) → ReadRule → List Value → ReadTheory → PlaceOf Symbol → Type 0
IsTuple P rule values theory place =
    (key : Key) × (element : ReadElement) × IsRelevantElement P rule values theory key element
    × HasTuple (bound_in_element rule values element key.values) element place

-- the two ends of an element of `&dom`: some relevant instance of it has them
abbrev pub IsRange : (Symbol → Type 0) → ReadRule → List Value → ReadTheory → ℤ × ℤ → Type 0
IsRange P rule values theory range =
    (key : Key) × (element : ReadElement) × IsRelevantElement P rule values theory key element
    × (span_of (bound_in_element rule values element key.values) element.first ≡ IsSpan range.0 range.1)

-- an integer of `&dom`: it lies between the ends of some element
abbrev pub IsInDomain : (Symbol → Type 0) → ReadRule → List Value → ReadTheory → ℤ → Type 0
IsInDomain P rule values theory n = (range : ℤ × ℤ) × IsRange P rule values theory range × (range.0 ≤ℤ n) × (n ≤ℤ range.1)

-- VARIABLES

-- the integer variable occurs in the collected form, also with coefficient 0
abbrev pub OccursInForm : Symbol → LinearOf Symbol → Type 0
OccursInForm x form = (coefficient : ℤ) × IsMember form.pairs (x, coefficient)

abbrev pub OccursInGuard : List Outcome → Option Guard → Symbol → Type 0
OccursInGuard bound None x = ⊥
OccursInGuard bound (Some guard) x = (form : LinearOf Symbol) × HasForm (collected bound guard.right) form × OccursInForm x form

-- `&dom` has no tuples with integer variables
abbrev pub IsTupleVariable : (Symbol → Type 0) → ReadRule → List Value → ReadTheory → Symbol → Type 0
IsTupleVariable P rule values theory x =
    (theory.name ≡ name.Dom → ⊥) × ((place : PlaceOf Symbol) × IsTuple P rule values theory place × OccursInForm x place.linear)
