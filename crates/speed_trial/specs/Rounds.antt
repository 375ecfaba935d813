-- What rounds of counting come to.
use Rattle.std.specs.Prelude.{ℕ, zero, suc, ◌+◌, ◌-◌, ◌%◌, ℤ, pos, List}
use Rattle.lane_kernels.specs.Columns.{within_count}

-- how many intervals lie within the ends of a round: 20000 and 50000, moved together by the round's last four bits
abbrev pub count_of_round : List ℤ → List ℤ → ℕ → ℕ
count_of_round lows highs round = within_count (pos (20000 + round % 16)) (pos (50000 - round % 16)) lows highs

-- the counts of so many rounds together, without what a word of 64 bits has no room for
abbrev pub count_of_rounds : List ℤ → List ℤ → ℕ → ℕ
count_of_rounds lows highs zero = 0
count_of_rounds lows highs (suc rounds) = (count_of_rounds lows highs rounds + count_of_round lows highs rounds) % 18446744073709551616
