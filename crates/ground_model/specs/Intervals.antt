-- Sets of integers as closed intervals.
use Rattle.std.specs.Prelude.{Bool, true, ◌&&◌, ℤ, pos, ◌+ℤ◌, int_le, List, [], ◌∷◌}
use Rattle.std.specs.List.{list_any}

-- each interval begins at least 2 above this number, and is not empty; likewise the next ones behind it
abbrev pub are_parted_from : ℤ → List (ℤ × ℤ) → Bool
are_parted_from last [] = true
are_parted_from last (interval ∷ rest) =
    int_le (last +ℤ pos 2) interval.0 && int_le interval.0 interval.1 && are_parted_from interval.1 rest

-- no interval is empty, they ascend, and at least one integer lies between each and the next: equal sets have equal lists
abbrev pub are_parted : List (ℤ × ℤ) → Bool
are_parted [] = true
are_parted (interval ∷ rest) = int_le interval.0 interval.1 && are_parted_from interval.1 rest

-- the integer lies in one of the intervals
abbrev pub lies_in : List (ℤ × ℤ) → ℤ → Bool
lies_in intervals k = list_any (λ interval. int_le interval.0 k && int_le k interval.1) intervals
