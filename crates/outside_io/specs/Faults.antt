-- When a call of the outside says that it failed. A count of faults is a 64-bit counter that stops at its last value.
use Rattle.std.specs.Prelude.{ℕ, ◌-◌, ◌^◌, ◌≤◌, ◌<◌}

-- the count is greater than before, or stood at its last value
abbrev pub Rose : ℕ → ℕ → Type 0
Rose before now = before < 2 ^ 64 - 1 → before < now

-- the count never falls, it rose where the call failed, and it rises in no other call
pub record RisesWhere (failed : Type 0) (before now : ℕ) : Type 0 where
  pub later : before ≤ now
  pub rose : failed → Rose before now
  pub only : before < now → failed
