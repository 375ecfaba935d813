-- Hits side by side in two lanes. Private contracts alone cite this file.
use Rattle.std.specs.Prelude.{◌≡◌, ◌≤◌, ℕ, ℤ, pos, List, [], ◌∷◌, ◌+◌, drop, slice_index_or}
use Rattle.lane_kernels.specs.Columns.{count_of_one, within_count}

-- what place i adds to the count of the intervals within a and b
abbrev pub hit_at : ℤ → ℤ → List ℤ → List ℤ → ℕ → ℕ
hit_at a b lows highs i = count_of_one a b (slice_index_or lows i (pos 0)) (slice_index_or highs i (pos 0))

abbrev pub hits_of_two : ℤ → ℤ → List ℤ → List ℤ → ℕ → List ℕ
hits_of_two a b lows highs i = hit_at a b lows highs i ∷ hit_at a b lows highs (i + 1) ∷ []

-- two lanes that together hold how many intervals from one place up to another lie within a and b
pub record AreHits (a b : ℤ) (lows highs : List ℤ) (from to : ℕ) (lanes : List ℕ) : Type 0 where
  pub left : ℕ
  pub right : ℕ
  pub two : lanes ≡ left ∷ right ∷ []
  pub few : (left + right) + from ≤ to
  pub counted : within_count a b (drop from lows) (drop from highs) ≡ (left + right) + within_count a b (drop to lows) (drop to highs)
