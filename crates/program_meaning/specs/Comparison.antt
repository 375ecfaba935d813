-- What comparisons come to.
use Rattle.std.specs.Prelude.{Bool, true, false, not, ◌&&◌, ◌||◌, if◌then◌else◌, ℤ, int_le, List, Option, None, Some}
use Rattle.std.specs.Ordering.{is_eq, is_lt, is_le, is_gt, is_ge}
use Rattle.std.specs.declared.cmp.Ordering.{Ordering}
use Rattle.symbols.specs.declared.rel.Rel.{Rel}
use Rattle.symbols.specs.declared.rel.Rel.TheVariants.{Equal, NotEqual, Less, LessEqual, Greater, GreaterEqual}
use Rattle.symbols.specs.Symbol.{Symbol, Number, Identifier, Text, Function}
use Rattle.symbols.specs.Order.{symbol_cmp}
use Rattle.syntax_tree.specs.declared.term.Part.{Part}
use Rattle.syntax_tree.specs.declared.term.Term.{Term, out-Term}
use Rattle.syntax_tree.specs.declared.term.Term.TheOpen.{Term-F}
use Rattle.syntax_tree.specs.Outcome.{Outcome, IsSymbol, IsOver, IsUndefined}
use Rattle.syntax_tree.specs.Value.{value_of}
use Rattle.program_meaning.specs.Read.{PlainLiteral}
use Rattle.program_meaning.specs.Variables.{is_free}

-- a truth, or over, or undefined
pub data Compared : Type 0 where
  IsTruth : Bool → Compared
  TruthOver : Compared
  TruthUndefined : Compared

-- an end of an interval: an integer, over, or undefined
pub data End : Type 0 where
  IsEnd : ℤ → End
  EndOver : End
  EndUndefined : End

-- the integers from one end to another, or over, or undefined
pub data Span : Type 0 where
  IsSpan : ℤ → ℤ → Span
  SpanOver : Span
  SpanUndefined : Span

-- INTERVALS

-- an end that is no integer is undefined
abbrev pub end_of : Outcome → End
end_of (IsSymbol (Number n)) = IsEnd n
end_of (IsSymbol symbol) = EndUndefined
end_of IsOver = EndOver
end_of IsUndefined = EndUndefined

-- an interval with an end that is undefined is undefined, and else one with an end that is over is over
abbrev pub span_from : End → End → Span
span_from (IsEnd low) (IsEnd high) = IsSpan low high
span_from EndUndefined high = SpanUndefined
span_from low EndUndefined = SpanUndefined
span_from low high = SpanOver

abbrev pub ends_in : Term-F Term Part → Option (Term × Term)
ends_in (Term-F.Interval low high) = Some (low, high)
ends_in layer = None

-- the two ends of a term that is an interval
abbrev pub ends : Term → Option (Term × Term)
ends term = ends_in (out-Term term)

-- an interval's integers, or those of a term that is no interval: its value alone
abbrev pub span_with : List Outcome → Term → Option (Term × Term) → Span
span_with bound term (Some pair) = span_from (end_of (value_of bound pair.0)) (end_of (value_of bound pair.1))
span_with bound term None = span_from (end_of (value_of bound term)) (end_of (value_of bound term))

-- the integers that a term or an interval stands for
abbrev pub span_of : List Outcome → Term → Span
span_of bound term = span_with bound term (ends term)

-- TRUTH

-- the order of two symbols fits the relation
abbrev pub fits_order : Rel → Ordering → Bool
fits_order Equal order = is_eq order
fits_order NotEqual order = not (is_eq order)
fits_order Less order = is_lt order
fits_order LessEqual order = is_le order
fits_order Greater order = is_gt order
fits_order GreaterEqual order = is_ge order

-- a comparison by `=` of which exactly one side is over fails where a side is a variable that no positive atom binds, and else is over
abbrev pub one_over : Bool → Compared
one_over free = (if free then IsTruth false else TruthOver)

-- a comparison of which exactly one side is over
abbrev pub with_one_over : Bool → Rel → Compared
with_one_over free Equal = one_over free
with_one_over free rel = TruthOver

-- two values: undefined where one is, else over where one is, but for the exception of `=`
abbrev pub compared : Bool → Rel → Outcome → Outcome → Compared
compared free rel IsUndefined right = TruthUndefined
compared free rel (IsSymbol a) IsUndefined = TruthUndefined
compared free rel IsOver IsUndefined = TruthUndefined
compared free rel (IsSymbol a) (IsSymbol b) = IsTruth (fits_order rel (symbol_cmp a b))
compared free rel IsOver IsOver = TruthOver
compared free rel (IsSymbol a) IsOver = with_one_over free rel
compared free rel IsOver (IsSymbol b) = with_one_over free rel

-- the symbol is an integer from one end to the other
abbrev pub lies_between : ℤ → ℤ → Symbol → Bool
lies_between low high (Number n) = int_le low n && int_le n high
lies_between low high (Identifier name) = false
lies_between low high (Text text) = false
lies_between low high (Function name args) = false

-- a value against an interval by `=`
abbrev pub contained : Bool → Outcome → Span → Compared
contained free IsUndefined span = TruthUndefined
contained free (IsSymbol a) SpanUndefined = TruthUndefined
contained free IsOver SpanUndefined = TruthUndefined
contained free (IsSymbol a) (IsSpan low high) = IsTruth (lies_between low high a)
contained free (IsSymbol a) SpanOver = one_over free
contained free IsOver (IsSpan low high) = one_over free
contained free IsOver SpanOver = TruthOver

abbrev pub against : Bool → List Outcome → Term → Rel → Term → Option (Term × Term) → Compared
against free bound left rel right None = compared free rel (value_of bound left) (value_of bound right)
against free bound left rel right (Some pair) = contained free (value_of bound left) (span_of bound right)

-- what a comparison comes to, where these literals' positive atoms bind
abbrev pub comparison : List PlainLiteral → List Outcome → Term → Rel → Term → Compared
comparison literals bound left rel right = against (is_free literals left || is_free literals right) bound left rel right (ends right)

-- it holds or is over
abbrev pub may_hold : Compared → Bool
may_hold (IsTruth truth) = truth
may_hold TruthOver = true
may_hold TruthUndefined = false

-- it is over
abbrev pub is_truth_over : Compared → Bool
is_truth_over (IsTruth truth) = false
is_truth_over TruthOver = true
is_truth_over TruthUndefined = false
