-- The count of intervals from one place on.
use Rattle.std.specs.Prelude.{int_le, ◌&&◌}
use Rattle.std.proofs.Common.{◌≡◌, ◌+◌, ◌≤◌, ◌<◌, ℕ, ℤ, pos, zero, suc, Bool, true, false, if◌then◌else◌, refl, arith, List, [], ◌∷◌, length, drop, get_or}
use Rattle.lane_kernels.specs.Columns.{within_count, count_of_one, is_within}

count_behind : (a b : ℤ) (lows highs : List ℤ) (at : ℕ) → at < length lows → at < length highs
    → within_count a b (drop at lows) (drop at highs) ≡ count_of_one a b (get_or lows at (pos 0)) (get_or highs at (pos 0)) + within_count a b (drop (suc at) lows) (drop (suc at) highs)
count_behind a b [] highs at l h = absurd (omega arith)
count_behind a b (x ∷ xs) [] at l h = absurd (omega arith)
count_behind a b (x ∷ xs) (y ∷ ys) zero l h = refl
count_behind a b (x ∷ xs) (y ∷ ys) (suc at) l h = count_behind a b xs ys at (omega arith) (omega arith)

-- the count from a place on is that of the place and of those behind it
pub count_from : (a b : ℤ) (lows highs : List ℤ) (at next : ℕ) → next ≡ at + 1 → at < length lows → at < length highs
    → within_count a b (drop at lows) (drop at highs) ≡ count_of_one a b (get_or lows at (pos 0)) (get_or highs at (pos 0)) + within_count a b (drop next lows) (drop next highs)
count_from a b lows highs at next e l h =
    let is : next ≡ suc at = omega arith in
    rw is (count_behind a b lows highs at l h)

-- an interval that lies within the ends counts one, another none
pub within_counts : (a b low high : ℤ) → int_le a low ≡ true → int_le high b ≡ true → count_of_one a b low high ≡ 1
within_counts a b low high begins ends = (λ i. if (begins i && ends i) then 1 else 0)

pub early_counts : (a b low high : ℤ) → int_le a low ≡ false → count_of_one a b low high ≡ 0
early_counts a b low high begins = (λ i. if (begins i && int_le high b) then 1 else 0)

pub late_counts : (a b low high : ℤ) → int_le a low ≡ true → int_le high b ≡ false → count_of_one a b low high ≡ 0
late_counts a b low high begins ends = (λ i. if (begins i && ends i) then 1 else 0)
