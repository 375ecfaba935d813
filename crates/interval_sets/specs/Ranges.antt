-- Ranges of integers, as pairs of ends.
use Rattle.std.specs.Prelude.{◌≡◌, ◌↔◌, ◌≤ℤ◌, true, ℤ, List}
use Rattle.std.specs.Ordering.{int_cmp, ordering_then}
use Rattle.std.specs.declared.cmp.Ordering.{Ordering}
use Rattle.ground_model.specs.Intervals.{lies_in}
use Rattle.ground_model.specs.Members.{IsMember}

-- ranges by their first ends, then by their second ones
abbrev pub range_cmp : ℤ × ℤ → ℤ × ℤ → Ordering
range_cmp a b = ordering_then (int_cmp a.0 b.0) (int_cmp a.1 b.1)

-- the intervals have the integers that lie between the ends of some range
abbrev pub HasIntegersOf : List (ℤ × ℤ) → List (ℤ × ℤ) → Type 0
HasIntegersOf ranges intervals = (n : ℤ) → (lies_in intervals n ≡ true) ↔ ((range : ℤ × ℤ) × IsMember ranges range × (range.0 ≤ℤ n) × (n ≤ℤ range.1))
