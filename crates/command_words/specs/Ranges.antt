-- The ranges in which settings lie.
use Rattle.std.specs.Prelude.{◌≤◌, ◌<◌, ◌^◌, ◌≤ℤ◌, ℤ, pos, negsuc, length, IfSome}
use Rattle.command_words.specs.Settings.{SolverReading, CheckerReading}

-- from -1073741823 to 1073741823
abbrev pub IsEnd : ℤ → Type 0
IsEnd z = (negsuc 1073741822 ≤ℤ z) × (z ≤ℤ pos 1073741823)

-- the settings of the solver: numbers that fit 64 bits, at least one conflict, two ends of which the least is at most the greatest, a limit
-- from 1 to 4,194,304, and at most 65,536 FILEs
pub record AreWithin (s : SolverReading) : Type 0 where
  pub answers : IfSome s.answers (λ n. n < 2 ^ 64)
  pub some_conflict : 1 ≤ s.conflicts
  pub conflicts : s.conflicts < 2 ^ 64
  pub min : IsEnd s.min
  pub max : IsEnd s.max
  pub ordered : s.min ≤ℤ s.max
  pub some_instance : 1 ≤ s.ground_limit
  pub instances : s.ground_limit ≤ 4194304
  pub few : length s.files ≤ 65536

-- the settings of the checker: each end that is named, the least of which is at most the greatest where both are, and at most 65,536 FILEs
-- beside the derivation
pub record AreNamedWithin (s : CheckerReading) : Type 0 where
  pub min : IfSome s.min IsEnd
  pub max : IfSome s.max IsEnd
  pub ordered : IfSome s.min (λ min. IfSome s.max (λ max. min ≤ℤ max))
  pub few : length s.files ≤ 65536
