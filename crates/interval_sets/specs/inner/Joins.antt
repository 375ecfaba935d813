-- Ranges in order, joined one by one.
use Rattle.std.specs.Prelude.{Bool, if◌then◌else◌, ℤ, pos, ◌+ℤ◌, int_lt, int_le, List, [], ◌∷◌, ◌++◌, Option, None, Some}

abbrev pub those : Option (ℤ × ℤ) → List (ℤ × ℤ)
those None = []
those (Some interval) = interval ∷ []

-- no integer lies between an end and a beginning
abbrev pub touches : ℤ → ℤ → Bool
touches end begin = int_le begin (end +ℤ pos 1)

abbrev pub greater_of : ℤ → ℤ → ℤ
greater_of one other = (if int_lt one other then other else one)

-- the interval that is finished where a range comes to one that may grow, and the one that may grow then
abbrev pub finished_by : Option (ℤ × ℤ) → ℤ × ℤ → Option (ℤ × ℤ)
finished_by None range = None
finished_by (Some interval) range = (if int_lt range.1 range.0 then None else (if touches interval.1 range.0 then None else Some interval))

abbrev pub growing_by : Option (ℤ × ℤ) → ℤ × ℤ → Option (ℤ × ℤ)
growing_by None range = (if int_lt range.1 range.0 then None else Some range)
growing_by (Some interval) range =
    (if int_lt range.1 range.0 then Some interval
    else (if touches interval.1 range.0 then Some (interval.0, greater_of interval.1 range.1) else Some range))

-- what becomes of an interval that may still grow, and of the ranges behind it
abbrev pub joined : Option (ℤ × ℤ) → List (ℤ × ℤ) → List (ℤ × ℤ)
joined growing [] = those growing
joined growing (range ∷ rest) = those (finished_by growing range) ++ joined (growing_by growing range) rest
