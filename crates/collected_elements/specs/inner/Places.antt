-- The places of elements, one by one.
use Rattle.std.specs.Prelude.{◌≡◌, ◌≤ℤ◌, ◌<◌, ℕ, Bool, false, ◌||◌, ℤ, pos, List, [], ◌∷◌, ◌++◌, map, Option, None, Some}
use Rattle.std.specs.List.{AllByRecursion, list_all, list_any}
use Rattle.std.specs.Ordering.{int_eq}
use Rattle.symbols.specs.Symbol.{Symbol, Number}
use Rattle.symbols.specs.Table.{symbol_at}
use Rattle.syntax_tree.specs.declared.binding.Value.{Value}
use Rattle.syntax_tree.specs.declared.binding.Value.TheVariants as value
use Rattle.syntax_tree.specs.declared.term.Part.{Part}
use Rattle.syntax_tree.specs.declared.term.Term.{Term}
use Rattle.syntax_tree.specs.Outcome.{Outcome, IsSymbol}
use Rattle.syntax_tree.specs.Value.{value_of}
use Rattle.program_meaning.specs.Collected.{Collected, collected}
use Rattle.program_meaning.specs.Comparison.{Span, IsSpan, SpanUndefined, span_of}
use Rattle.program_meaning.specs.Theory.{is_defined, is_over, is_duration, is_bad_side}

-- one pair with coefficient 1
abbrev pub is_one_pair : List (Symbol × ℤ) → Bool
is_one_pair [] = false
is_one_pair (pair ∷ []) = int_eq pair.1 (pos 1)
is_one_pair (pair ∷ other ∷ rest) = false

-- a part of a sum that `&diff` does not take, or that is not linear
abbrev pub is_bad : Collected → Bool
is_bad term = term.not_linear || is_bad_side term

abbrev pub has_bad : List Outcome → List Part → Bool
has_bad bound parts = list_any (λ part. is_bad (collected bound part.term)) parts

-- a value, or something that is collected with it, is over
abbrev pub is_value_over : Bool → Outcome → Bool
is_value_over over outcome = over || is_over outcome

-- a duration by its value: it is none, or from 0
abbrev pub IsDurationBy : Bool → Outcome → Option ℤ → Type 0
IsDurationBy over outcome None = (is_value_over over outcome ≡ false) × (is_duration outcome ≡ false)
IsDurationBy over outcome (Some n) = (is_value_over over outcome ≡ false) × (outcome ≡ IsSymbol (Number n)) × (pos 0 ≤ℤ n)

abbrev pub IsDurationOf : List Outcome → Option Term → Option ℤ → Type 0
IsDurationOf bound None found = found ≡ Some (pos 0)
IsDurationOf bound (Some term) found = IsDurationBy (collected bound term).over (value_of bound term) found

-- two ends by what they span
abbrev pub IsSpanBy : Bool → Span → Option (ℤ × ℤ) → Type 0
IsSpanBy over span None = (over ≡ false) × (span ≡ SpanUndefined)
IsSpanBy over span (Some range) = (over ≡ false) × (span ≡ IsSpan range.0 range.1)

abbrev pub IsSpanOf : List Outcome → Term → Option (ℤ × ℤ) → Type 0
IsSpanOf bound term found = IsSpanBy (collected bound term).over (span_of bound term) found

-- further places, of which none is over: one is undefined, or they are these symbols
abbrev pub AreValues : List Symbol → List Outcome → Option (List ℕ) → Type 0
AreValues symbols outcomes None = list_all is_defined outcomes ≡ false
AreValues symbols outcomes (Some ids) = outcomes ≡ map (λ id. IsSymbol (symbol_at symbols id)) ids

pub record IsRestOf (symbols : List Symbol) (bound : List Outcome) (terms : List Term) (found : Option (List ℕ)) : Type 0 where
  pub settled : list_any is_over (map (value_of bound) terms) ≡ false
  pub values : AreValues symbols (map (value_of bound) terms) found

abbrev pub IsKnownRest : ℕ → Option (List ℕ) → Type 0
IsKnownRest size None = Unit {0}
IsKnownRest size (Some ids) = AllByRecursion (λ id. id < size) ids

-- the ids so far with that of one value more
abbrev pub IsWithPlace : Option (List ℕ) → Option Value → Option (List ℕ) → Type 0
IsWithPlace found None more = more ≡ None
IsWithPlace found (Some value.Over) more = ⊥
IsWithPlace None (Some (value.Symbol id)) more = more ≡ None
IsWithPlace (Some ids) (Some (value.Symbol id)) more = more ≡ Some (ids ++ id ∷ [])
