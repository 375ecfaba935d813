-- What elements and guards of theory atoms come to.
use Rattle.std.specs.Prelude.{◌≡◌, ◌<◌, Bool, true, false, List, length}
use Rattle.std.specs.List.{AllByRecursion}
use Rattle.symbols.specs.Symbol.{Symbol}
use Rattle.syntax_tree.specs.declared.literal.TheoryName.{TheoryName}
use Rattle.syntax_tree.specs.declared.literal.TheoryName.TheVariants as name
use Rattle.syntax_tree.specs.Outcome.{Outcome}
use Rattle.ground_model.specs.Rule.{PlaceOf}
use Rattle.program_meaning.specs.declared.collected.CollectedPlace.{CollectedPlace}
use Rattle.program_meaning.specs.Read.{ReadElement}
use Rattle.program_meaning.specs.Collected.{Collected}
use Rattle.program_meaning.specs.Comparison.{IsSpan, SpanUndefined, span_of}
use Rattle.program_meaning.specs.Said.{linear_in, place_in}
use Rattle.program_meaning.specs.Theory.{HasForm, HasTuple, element_over, element_not_linear, first_large}
use Rattle.collected_terms.specs.Found.{IsKnownLinear}
use Rattle.collected_elements.specs.declared.judged.JudgedTerm.{JudgedTerm}
use Rattle.collected_elements.specs.declared.judged.JudgedTerm.TheVariants as term
use Rattle.collected_elements.specs.declared.judged.JudgedElement.{JudgedElement}
use Rattle.collected_elements.specs.declared.judged.JudgedElement.TheVariants as element

-- TERMS

-- a term in which nothing is over: not linear by this test, or too large, or with its form, each id read in a table
abbrev pub IsJudgedBy : List Symbol → JudgedTerm → Collected → Bool → Type 0
IsJudgedBy symbols term.NotLinear found not_linear = (found.over ≡ false) × (not_linear ≡ true)
IsJudgedBy symbols term.Large found not_linear = (found.over ≡ false) × (not_linear ≡ false) × (found.large ≡ true)
IsJudgedBy symbols (term.Form linear) found not_linear = (not_linear ≡ false) × HasForm found (linear_in symbols linear)

-- the ids in it are of the table, its variables ascend, and its numbers are small
abbrev pub IsKnownTerm : List Symbol → JudgedTerm → Type 0
IsKnownTerm symbols term.NotLinear = Unit {0}
IsKnownTerm symbols term.Large = Unit {0}
IsKnownTerm symbols (term.Form linear) = IsKnownLinear symbols linear

-- ELEMENTS

-- nothing in its places is over, and they are linear
pub record IsClear (kind : TheoryName) (bound : List Outcome) (element : ReadElement) : Type 0 where
  pub settled : element_over kind bound element ≡ false
  pub linear : element_not_linear kind bound element ≡ false

-- an element that has neither a tuple nor, in `&dom`, two ends
pub record HasNothing (kind : TheoryName) (bound : List Outcome) (element : ReadElement) : Type 0 where
  pub small : first_large kind bound element.first ≡ false
  pub no_tuple : (kind ≡ name.Dom → ⊥) → (place : PlaceOf Symbol) → HasTuple bound element place → ⊥
  pub no_ends : kind ≡ name.Dom → span_of bound element.first ≡ SpanUndefined

-- an element in which nothing is over: not linear, or too large, or with its tuple, or in `&dom` its ends, or with neither
abbrev pub IsJudged : List Symbol → TheoryName → List Outcome → ReadElement → JudgedElement → Type 0
IsJudged symbols kind bound read element.NotLinear = (element_over kind bound read ≡ false) × (element_not_linear kind bound read ≡ true)
IsJudged symbols kind bound read element.Large = IsClear kind bound read × (first_large kind bound read.first ≡ true)
IsJudged symbols kind bound read element.Nothing = IsClear kind bound read × HasNothing kind bound read
IsJudged symbols kind bound read (element.Tuple place) =
    IsClear kind bound read × (first_large kind bound read.first ≡ false) × (kind ≡ name.Dom → ⊥) × HasTuple bound read (place_in symbols place)
IsJudged symbols kind bound read (element.Range low high) = IsClear kind bound read × (kind ≡ name.Dom) × (span_of bound read.first ≡ IsSpan low high)

-- the ids in a tuple are of the table, its variables ascend, and its numbers are small
pub record IsKnownPlace (symbols : List Symbol) (place : CollectedPlace) : Type 0 where
  pub linear : IsKnownLinear symbols place.linear
  pub rest : AllByRecursion (λ id. id < length symbols) place.rest

abbrev pub IsKnownElement : List Symbol → JudgedElement → Type 0
IsKnownElement symbols (element.Tuple place) = IsKnownPlace symbols place
IsKnownElement symbols other = Unit {0}
