-- Rows of numbers side by side in one list, and where each ends.
use Rattle.std.specs.Prelude.{◌≡◌, ◌≤◌, ℕ, zero, suc, List, [], ◌∷◌, slice_range, slice_index}

-- the rows, the first of which begins at this place
abbrev pub rows_from : ℕ → List ℕ → List ℕ → List (List ℕ)
rows_from start [] items = []
rows_from start (end ∷ ends) items = slice_range items start end ∷ rows_from end ends items

-- each ends where the next begins, and the last at this place
abbrev pub AreEnds : ℕ → List ℕ → ℕ → Type 0
AreEnds start [] last = start ≡ last
AreEnds start (end ∷ ends) last = (start ≤ end) × AreEnds end ends last

-- where the row at a place begins, where the first begins at this one
abbrev pub row_start : ℕ → List ℕ → ℕ → ℕ
row_start start ends zero = start
row_start start ends (suc k) = slice_index ends k
