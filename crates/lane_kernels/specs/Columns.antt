-- Columns of intervals: one place holds a low, a high and, where it counts, a duration.
use Rattle.std.specs.Prelude.{ℕ, ℤ, pos, negsuc, ◌+ℤ◌, ◌<ℤ◌, ◌≤ℤ◌, List, [], ◌∷◌, Bool, ◌+◌, ◌&&◌, if◌then◌else◌, int_le}

-- the interval from low to high begins at a or later and ends by b
abbrev pub is_within : ℤ → ℤ → ℤ → ℤ → Bool
is_within a b low high = int_le a low && int_le high b

-- what one interval adds to the count of those within a and b
abbrev pub count_of_one : ℤ → ℤ → ℤ → ℤ → ℕ
count_of_one a b low high = if is_within a b low high then 1 else 0

-- how many intervals lie within a and b
abbrev pub within_count : ℤ → ℤ → List ℤ → List ℤ → ℕ
within_count a b [] highs = 0
within_count a b (low ∷ lows) [] = 0
within_count a b (low ∷ lows) (high ∷ highs) = count_of_one a b low high + within_count a b lows highs

-- what one interval adds to the load within a and b: its duration, where it still ends by b after it
abbrev pub load_of_one : ℤ → ℤ → ℤ → ℤ → ℤ → ℤ
load_of_one a b low high duration = if is_within a b low (high +ℤ duration) then duration else pos 0

-- the durations together of the intervals that begin at a or later and, after their duration, end by b
abbrev pub within_load : ℤ → ℤ → List ℤ → List ℤ → List ℤ → ℤ
within_load a b [] highs durations = pos 0
within_load a b (low ∷ lows) [] durations = pos 0
within_load a b (low ∷ lows) (high ∷ highs) [] = pos 0
within_load a b (low ∷ lows) (high ∷ highs) (duration ∷ durations) =
    load_of_one a b low high duration +ℤ within_load a b lows highs durations

-- strictly between -2^62 and 2^62
abbrev pub IsEnd : ℤ → Type 0
IsEnd z = (negsuc 4611686018427387903 <ℤ z) × (z <ℤ pos 4611686018427387904)

-- from 0 to 2^31 - 1
abbrev pub IsDuration : ℤ → Type 0
IsDuration d = (pos 0 ≤ℤ d) × (d ≤ℤ pos 2147483647)
