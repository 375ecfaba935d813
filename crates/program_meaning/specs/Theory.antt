-- Elements and guards of theory atoms.
use Rattle.std.specs.Prelude.{◌≡◌, ◌≤ℤ◌, Bool, true, false, not, ◌&&◌, ◌||◌, ℤ, pos, int_le, List, [], ◌∷◌, map, Option, None, Some}
use Rattle.std.specs.List.{AllZip, list_all, list_any}
use Rattle.std.specs.Ordering.{int_eq, int_cmp, ordering_then}
use Rattle.std.specs.Cmp.Lexicographic.{slice_cmp}
use Rattle.std.specs.declared.cmp.Ordering.{Ordering}
use Rattle.symbols.specs.Symbol.{Symbol, Number}
use Rattle.symbols.specs.Order.{symbol_cmp}
use Rattle.syntax_tree.specs.declared.literal.Guard.{Guard}
use Rattle.syntax_tree.specs.declared.literal.TheoryName.{TheoryName}
use Rattle.syntax_tree.specs.declared.literal.TheoryName.TheVariants as name
use Rattle.syntax_tree.specs.declared.term.Part.{Part}
use Rattle.syntax_tree.specs.declared.term.Term.{Term, out-Term}
use Rattle.syntax_tree.specs.declared.term.Term.TheOpen.{Term-F}
use Rattle.syntax_tree.specs.Outcome.{Outcome, IsSymbol, IsOver, IsUndefined}
use Rattle.syntax_tree.specs.Value.{value_of}
use Rattle.ground_model.specs.Rule.{LinearOf, PlaceOf}
use Rattle.program_meaning.specs.Read.{ReadElement}
use Rattle.program_meaning.specs.Comparison.{Span, IsSpan, SpanOver, SpanUndefined, span_of}
use Rattle.program_meaning.specs.Collected.{Collected, collected, holds_variable}

-- WORDS

-- not undefined
abbrev pub is_defined : Outcome → Bool
is_defined (IsSymbol symbol) = true
is_defined IsOver = true
is_defined IsUndefined = false

-- over
abbrev pub is_over : Outcome → Bool
is_over (IsSymbol symbol) = false
is_over IsOver = true
is_over IsUndefined = false

abbrev pub is_span_over : Span → Bool
is_span_over (IsSpan low high) = false
is_span_over SpanOver = true
is_span_over SpanUndefined = false

-- one variable alone, with coefficient 1
abbrev pub is_one_variable : LinearOf Symbol → Bool
is_one_variable linear = is_one linear.pairs && int_eq linear.constant (pos 0)
  where
    is_one : List (Symbol × ℤ) → Bool
    is_one [] = false
    is_one (pair ∷ []) = int_eq pair.1 (pos 1)
    is_one (pair ∷ other ∷ rest) = false

-- a term that is not too large, and that is something else than one variable
abbrev pub is_no_variable : Collected → Bool
is_no_variable term = not term.large && not (is_one_variable term.form)

-- an integer that is not negative
abbrev pub is_duration : Outcome → Bool
is_duration (IsSymbol (Number n)) = int_le (pos 0) n
is_duration outcome = false

abbrev pub parts_in : Term-F Term Part → List Term
parts_in (Term-F.Sum parts) = map (λ part. part.term) parts
parts_in layer = []

-- the two sides of `&diff`
abbrev pub sides : Term → List Term
sides term = parts_in (out-Term term)

-- UNDEFINED AND OVER

abbrev pub option_undefined : List Outcome → Option Term → Bool
option_undefined bound None = false
option_undefined bound (Some term) = (collected bound term).undefined

-- an element is there where no argument in its first place or its duration is undefined, and no further place is
abbrev pub is_there : List Outcome → ReadElement → Bool
is_there bound element =
    not (collected bound element.first).undefined && not (option_undefined bound element.duration)
    && list_all (λ term. is_defined (value_of bound term)) element.rest

-- a duration is over where an argument or a variable in it is, or its value
abbrev pub duration_over : List Outcome → Option Term → Bool
duration_over bound None = false
duration_over bound (Some term) = (collected bound term).over || is_over (value_of bound term)

-- the first place of `&dom` is over where its value or an end is, too
abbrev pub first_over : TheoryName → List Outcome → Term → Bool
first_over name.Dom bound term = (collected bound term).over || is_span_over (span_of bound term)
first_over other bound term = (collected bound term).over

-- a place of an element is over
abbrev pub element_over : TheoryName → List Outcome → ReadElement → Bool
element_over name bound element =
    first_over name bound element.first || duration_over bound element.duration
    || list_any (λ term. is_over (value_of bound term)) element.rest

-- a guard stands where no argument in it is undefined
abbrev pub guard_stands : List Outcome → Option Guard → Bool
guard_stands bound None = true
guard_stands bound (Some guard) = not (collected bound guard.right).undefined

-- a guard is over where an argument or a variable in it is
abbrev pub guard_over : List Outcome → Option Guard → Bool
guard_over bound None = false
guard_over bound (Some guard) = (collected bound guard.right).over

-- NOT LINEAR

-- a side of `&diff` is to be one variable or an integer
abbrev pub is_bad_side : Collected → Bool
is_bad_side term = not term.large && holds_variable term.form && not (is_one_variable term.form)

-- the first place is not linear; `&show` wants one variable, each side of `&diff` one variable or an integer, and `&dom` nothing
abbrev pub first_not_linear : TheoryName → List Outcome → Term → Bool
first_not_linear name.Dom bound term = false
first_not_linear name.Show bound term = (collected bound term).not_linear || is_no_variable (collected bound term)
first_not_linear name.Diff bound term = (collected bound term).not_linear || list_any (λ side. is_bad_side (collected bound side)) (sides term)
first_not_linear other bound term = (collected bound term).not_linear

-- a duration is to be an integer from 0
abbrev pub duration_not_linear : List Outcome → Option Term → Bool
duration_not_linear bound None = false
duration_not_linear bound (Some term) = not (is_duration (value_of bound term))

-- an element is not linear
abbrev pub element_not_linear : TheoryName → List Outcome → ReadElement → Bool
element_not_linear name bound element = first_not_linear name bound element.first || duration_not_linear bound element.duration

-- a guard is not linear; that of `&dom` is to be one variable
abbrev pub guard_not_linear : TheoryName → List Outcome → Option Guard → Bool
guard_not_linear name bound None = false
guard_not_linear name.Dom bound (Some guard) = (collected bound guard.right).not_linear || is_no_variable (collected bound guard.right)
guard_not_linear other bound (Some guard) = (collected bound guard.right).not_linear

-- a part of the first place is too large; `&dom` has no linear first place
abbrev pub first_large : TheoryName → List Outcome → Term → Bool
first_large name.Dom bound term = false
first_large other bound term = (collected bound term).large

-- a part of a guard is too large
abbrev pub guard_large : List Outcome → Option Guard → Bool
guard_large bound None = false
guard_large bound (Some guard) = (collected bound guard.right).large

-- TUPLES

-- the term has this collected form, and nothing keeps it from having one
pub record HasForm (term : Collected) (form : LinearOf Symbol) : Type 0 where
  pub small : term.large ≡ false
  pub linear : term.not_linear ≡ false
  pub settled : term.over ≡ false
  pub same : term.form ≡ form

-- the duration, which is 0 where none is written
abbrev pub HasDuration : List Outcome → Option Term → ℤ → Type 0
HasDuration bound None duration = duration ≡ pos 0
HasDuration bound (Some term) duration = (value_of bound term ≡ IsSymbol (Number duration)) × (pos 0 ≤ℤ duration)

-- the tuple of an element: its first place in collected form, its duration, and its further places
pub record HasTuple (bound : List Outcome) (element : ReadElement) (place : PlaceOf Symbol) : Type 0 where
  pub linear : HasForm (collected bound element.first) place.linear
  pub duration : HasDuration bound element.duration place.duration
  pub rest : AllZip (λ term symbol. value_of bound term ≡ IsSymbol symbol) element.rest place.rest

-- variables in symbol order, then by coefficient
abbrev pub pair_cmp : Symbol × ℤ → Symbol × ℤ → Ordering
pair_cmp a b = ordering_then (symbol_cmp a.0 b.0) (int_cmp a.1 b.1)

-- tuples by their pairs from the left, then by constant, then by duration, then by their further places from the left
abbrev pub place_cmp : PlaceOf Symbol → PlaceOf Symbol → Ordering
place_cmp a b =
    ordering_then (slice_cmp pair_cmp a.linear.pairs b.linear.pairs)
    (ordering_then (int_cmp a.linear.constant b.linear.constant)
    (ordering_then (int_cmp a.duration b.duration) (slice_cmp symbol_cmp a.rest b.rest)))
