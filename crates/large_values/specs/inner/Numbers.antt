-- Small coefficients.
use Rattle.std.specs.Prelude.{ℕ, ◌<◌, ◌^◌, ℤ, unsigned_abs, List}
use Rattle.std.specs.List.{AllByRecursion}

-- each coefficient lies strictly between -2^62 and 2^62
abbrev pub AreSmallPairs : List (ℕ × ℤ) → Type 0
AreSmallPairs pairs = AllByRecursion (λ pair. unsigned_abs pair.1 < 2 ^ 62) pairs
