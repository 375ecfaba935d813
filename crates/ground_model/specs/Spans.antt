-- Tuples by the value of their first place and their duration, as the code compares them.
use Rattle.std.specs.Prelude.{◌≡◌, ℕ, ◌^◌, ◌≤◌, Bool, false, not, ℤ, int_lt, List, [], ◌∷◌, unsigned_abs}
use Rattle.std.specs.List.{AllByRecursion}
use Rattle.std.specs.Ordering.{int_eq}
use Rattle.ground_model.specs.declared.linear.Place.{Place}
use Rattle.ground_model.specs.Truth.{value_of, share}
use Rattle.ground_model.specs.View.{linear_of}

-- where a tuple starts, and how long it lasts
abbrev pub span_of : (ℕ → ℤ) → Place → ℤ × ℤ
span_of values place = (value_of values (linear_of place.linear), place.duration)

-- two spans start at different values
abbrev pub differ_by_value : ℤ × ℤ → ℤ × ℤ → Bool
differ_by_value a b = not (int_eq a.0 b.0)

-- two spans share no integer
abbrev pub are_apart_spans : ℤ × ℤ → ℤ × ℤ → Bool
are_apart_spans a b = not (share a.0 a.1 b.0 b.1)

-- the start of a span is within 110 bits, and its length within 31
pub record IsSizedSpan (span : ℤ × ℤ) : Type 0 where
  pub start : unsigned_abs span.0 ≤ 2 ^ 109
  pub length : unsigned_abs span.1 ≤ 2 ^ 31

-- one span starts before another
abbrev pub starts_before : ℤ × ℤ → ℤ × ℤ → Bool
starts_before a b = int_lt a.0 b.0

-- no span starts before an earlier one
abbrev pub AreAscending : List (ℤ × ℤ) → Type 0
AreAscending [] = Unit {0}
AreAscending (span ∷ rest) = AllByRecursion (λ later. starts_before later span ≡ false) rest × AreAscending rest
